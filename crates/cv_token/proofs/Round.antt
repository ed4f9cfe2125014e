-- The text of a token is read back as that token.
use Rattle.std.proofs.Common.{◌≡◌, ◌≤◌, [], ◌++◌, length, true, Some, Ok, option_and_then, refl, sym, ap, ◌∙◌, arith, append-nil, le-leb}
use Rattle.std.proofs.lemmas.Str.{is_utf8-from_IsUtf8}
use Rattle.json.specs.Json.{value, if_last}
use Rattle.json.specs.Lex.{tokens}
use Rattle.json.specs.Print.{print}
use Rattle.json.specs.Tree.{json_tokens}
use Rattle.json.proofs.Printed.Trees.{value-json_tokens, ArePrintable-json_tokens}
use Rattle.json.proofs.Printed.Tokens.{tokens-print}
use Rattle.serde_json.specs.Data.{Data, depth as data_depth}
use Rattle.serde_json.specs.Read.{read, of_json}
use Rattle.serde_json.specs.Written.{outline, compact_text}
use Rattle.serde_json.proofs.Texts.{print-outline}
use Rattle.cv_token.specs.declared.token.Token.{Token}
use Rattle.cv_token.specs.Bounds.{Fits}
use Rattle.cv_token.specs.Forms.{data_of, token_of}
use Rattle.cv_token.specs.Reading.{json_of, reading, tree_of, valued}
use Rattle.cv_token.specs.Shape.{depth, is_token}
use Rattle.cv_token.specs.Spelling.{spelling}
use Rattle.cv_token.specs.Spells.{IsTree}
use Rattle.cv_token.proofs.Backs.{Plain, keeps}
use Rattle.cv_token.proofs.Depths.{depth-outline, same_depth}
use Rattle.cv_token.proofs.Spelled.{spelled}
use Rattle.cv_token.proofs.Encoded.{IsUtf8-spelling}

read-compact_text : (d : Data) → Plain d → data_depth d ≤ 127 → read (compact_text d) ≡ Some d
read-compact_text d plain shallow =
    let h = depth-outline d in
    let ts = json_tokens (outline d) in
    let printed : tokens (print ts) ≡ ts ++ [] = tokens-print ts (ArePrintable-json_tokens (outline d) plain.numbers) ∙ sym (append-nil ts) in
    ap read (sym (print-outline d))
    ∙ ap (λ ts. option_and_then of_json (option_and_then (λ p. if_last p.0 p.1) (value 127 ts))) printed
    ∙ ap (λ o. option_and_then of_json (option_and_then (λ p. if_last p.0 p.1) o)) (value-json_tokens (outline d) 127 [] (omega arith))
    ∙ plain.back

pub json_of-spelling : (t : Token) → is_token t ≡ true → depth t ≤ 127 → json_of (spelling t) ≡ Some (data_of t)
json_of-spelling t known shallow =
    let e = same_depth t in
    rw (is_utf8-from_IsUtf8 (spelling t) (IsUtf8-spelling t known))
    (ap read (sym (spelled t).1) ∙ read-compact_text (data_of t) (keeps t known).0 (omega arith))

pub tree_of-spelling : (t : Token) → is_token t ≡ true → depth t ≤ 127 → tree_of (spelling t) ≡ Some t
tree_of-spelling t known shallow = ap (option_and_then token_of) (json_of-spelling t known shallow) ∙ (keeps t known).1

pub reading-spelling : (t : Token) → Fits t → reading (spelling t) ≡ Ok t
reading-spelling t f =
    let e = same_depth t in
    ap valued (json_of-spelling t f.token (omega arith))
    ∙ rw (le-leb (data_depth (data_of t)) 16 (omega (arith, f.shallow)), (keeps t f.token).1, le-leb (length (spelling t)) 1024 f.short) refl

-- two trees with one text are one tree
pub one_spelling : (s t : Token) → IsTree s → IsTree t → spelling s ≡ spelling t → s ≡ t
one_spelling s t h k e = let same : Some s ≡ Some t = sym (tree_of-spelling s h.token h.shallow) ∙ ap tree_of e ∙ tree_of-spelling t k.token k.shallow in cc

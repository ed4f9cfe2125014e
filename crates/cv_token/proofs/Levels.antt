-- The definitions on trees, one level down.
use Rattle.std.proofs.Common.{Bool, true, refl, ◌≡◌, ℕ, suc, ◌+◌, ◌&&◌, ◌==◌, if◌then◌else◌, List, [], ◌∷◌, ◌++◌, length, map, ap, ◌∙◌, sym, rules, arith, length-append}
use Rattle.std.proofs.lemmas.Bool.{ne_eqb}
use Rattle.std.specs.Str.{is_utf8}
use Rattle.json.specs.Print.{quoted}
use Rattle.cv_token.specs.declared.pairs.Pair.{Pair}
use Rattle.cv_token.specs.declared.token.Token.{Token, the_lemmas}
use Rattle.cv_token.specs.declared.token.Token.TheVariants as variants
use Rattle.cv_token.specs.Forms.{on_values}
use Rattle.cv_token.specs.Shape.{is_token, are_rising, all_members}
use Rattle.cv_token.specs.Spelling.{spelling, separated, behind_commas, members}

pub spelling-List : (ts : List Token) → spelling (variants.List ts) ≡ 91 ∷ (separated (map spelling ts) ++ 93 ∷ [])
spelling-List ts = search (rules, the_lemmas)

pub spelling-Dict : (ps : List (Pair Token)) → spelling (variants.Dict ps) ≡ 123 ∷ (separated (members (on_values spelling ps)) ++ 125 ∷ [])
spelling-Dict ps = search (rules, the_lemmas)

pub is_token-Text : (s : List ℕ) → is_token (variants.Text s) ≡ is_utf8 s
is_token-Text s = search (rules, the_lemmas)

pub is_token-Dict : (ps : List (Pair Token)) → is_token (variants.Dict ps) ≡ (are_rising (on_values is_token ps) && all_members (on_values is_token ps))
is_token-Dict ps = search (rules, the_lemmas)

-- the brackets, where each item counts with a comma
abbrev pub brackets : ℕ → ℕ
brackets n = if n == 0 then 2 else 1

some_brackets : (n : ℕ) → brackets (suc n) ≡ 1
some_brackets n = rw (ne_eqb (suc n) 0 (λ e. omega arith))

item_taken : (o c : ℕ) (s b : List ℕ) → length (o ∷ ((s ++ b) ++ c ∷ [])) ≡ 1 + length (44 ∷ (s ++ b))
item_taken o c s b = omega (arith, length-append (s ++ b) (c ∷ []))

pub length-spelling-List : (ts : List Token) → length (spelling (variants.List ts)) ≡ brackets (length ts) + length (behind_commas (map spelling ts))
length-spelling-List [] = ap length (spelling-List [])
length-spelling-List (t ∷ ts) = ap length (spelling-List (t ∷ ts)) ∙ item_taken 91 93 (spelling t) (behind_commas (map spelling ts)) ∙ ap (λ n. n + length (behind_commas (map spelling (t ∷ ts)))) (sym (some_brackets (length ts)))

pub length-spelling-Dict : (ps : List (Pair Token)) → length (spelling (variants.Dict ps)) ≡ brackets (length ps) + length (behind_commas (members (on_values spelling ps)))
length-spelling-Dict [] = ap length (spelling-Dict [])
length-spelling-Dict (p ∷ ps) =
    ap length (spelling-Dict (p ∷ ps))
    ∙ item_taken 123 125 (quoted p.key ++ 58 ∷ spelling p.value) (behind_commas (members (on_values spelling ps)))
    ∙ ap (λ n. n + length (behind_commas (members (on_values spelling (p ∷ ps))))) (sym (some_brackets (length ps)))

pub both_true : (a b c : Bool) → a ≡ true → b ≡ true → (a && (b && c)) ≡ c
both_true a b c e f = rw (e, f) refl

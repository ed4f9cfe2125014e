-- What is printed of a script is read as the same script, places aside.
use Rattle.std.proofs.Common.{◌≡◌, ℕ, List, [], ◌∷◌, map, Ok, Err, refl, sym, ap, ap₂, ◌∙◌, subst}
use Rattle.cv_lex.specs.declared.lexeme.Lexeme.{Lexeme}
use Rattle.cv_lex.specs.declared.word.Word.{Word}
use Rattle.cv_lex.specs.declared.word.Placed.{Placed}
use Rattle.cv_lex.specs.Words.{placed_word}
use Rattle.cv_readers.specs.Reading.{Read}
use Rattle.cv_readers.specs.Slots.{Slot, Matches}
use Rattle.cv_readers.proofs.Asides.{all_zeroed, none_zeroed, aside}
use Rattle.cv_writing.specs.Written.{written, words_in, ReadsAs}
use Rattle.cv_writing.proofs.Rereads.{read_again as words_again}
use Rattle.cv_syntax.specs.declared.tree.Item.{Item}
use Rattle.cv_syntax.specs.declared.tree.Script.{Script}
use Rattle.cv_syntax.specs.Whole.{most_levels, items_at}
use Rattle.cv_syntax.specs.Spelling.{script_slots}
use Rattle.cv_syntax.specs.Parsing.{words_of, answer_of}
use Rattle.cv_syntax.specs.Grammar.{SpellsTree}
use Rattle.cv_syntax.specs.Asides.{item_aside, CanBeWritten, ReadsBack}
use Rattle.cv_writing.specs.Printing.{words_expected, printed}
use Rattle.cv_syntax.proofs.Asides.{items_blind}
use Rattle.cv_syntax.proofs.Theorem.{found_of, read_again}

-- ---- words

abbrev bare : List Placed → List Word
bare ws = map (λ w. w.word) ws

expected : (ss : List Slot) (ws : List Placed) → Matches ss ws → words_expected ss ≡ bare ws
expected [] [] m = refl
expected [] (w ∷ ws) m = absurd m
expected (s ∷ ss) [] m = absurd m
expected (s ∷ ss) (w ∷ ws) m = ap₂ (λ x xs. x ∷ xs) m.0.0 (expected ss ws m.1)

words_bare : (source : List ℕ) (found : List Lexeme) → bare (words_of source found) ≡ words_in source found
words_bare source [] = refl
words_bare source (l ∷ found) = ap (λ xs. (placed_word source l).word ∷ xs) (words_bare source found)

at_zero : List Word → List Placed
at_zero [] = []
at_zero (w ∷ ws) = record { word = w; at = 0 } ∷ at_zero ws

zeroed_bare : (ws : List Placed) → all_zeroed ws ≡ at_zero (bare ws)
unfolding at_zero
zeroed_bare [] = refl
zeroed_bare (w ∷ ws) = ap (λ vs. record { word = w.word; at = 0 } ∷ vs) (zeroed_bare ws)

same_words : (ws vs : List Placed) → bare ws ≡ bare vs → all_zeroed ws ≡ all_zeroed vs
same_words ws vs e = zeroed_bare ws ∙ ap at_zero e ∙ sym (zeroed_bare vs)

-- ---- the script at other places

record SameAside (xs : List Item) (vs : List Placed) : Type 0 where
  again : List Item
  read : items_at most_levels vs ≡ Ok (again, [])
  same : map item_aside again ≡ map item_aside xs

same_read : (xs : List Item) (vs : List Placed) (r : Read (List Item)) → items_at most_levels vs ≡ r → aside (map item_aside) r ≡ Ok (map item_aside xs, []) → SameAside xs vs
same_read xs vs (Ok p) e a =
    let parts : ◌≡◌ {A = List Item × List Placed} (map item_aside p.0, all_zeroed p.1) (map item_aside xs, []) = cc in
    record {
      again = p.0;
      read = e ∙ ap (λ rest. Ok (p.0, rest)) (none_zeroed p.1 (ap (λ q. q.1) parts));
      same = ap (λ q. q.0) parts;
    }
same_read xs vs (Err miss) e a = cc

read_elsewhere : (script : Script) (ws vs : List Placed) → SpellsTree ws script → all_zeroed vs ≡ all_zeroed ws → SameAside script.items vs
read_elsewhere script ws vs s e =
    same_read script.items vs (items_at most_levels vs) refl
    (sym (items_blind most_levels vs) ∙ ap (items_at most_levels) e ∙ items_blind most_levels ws ∙ ap (aside (map item_aside)) (read_again ws script s))

-- ---- the text

pub read_back : (script : Script) (text : List ℕ) → CanBeWritten script → text ≡ printed (script_slots script) → ReadsBack script text
read_back script text can e =
    let source = can.source in
    let found = can.is.lexemes in
    let spelled = can.is.spelled in
    let words : words_expected (script_slots script) ≡ words_in source found = expected (script_slots script) (words_of source found) spelled.fits ∙ words_bare source found in
    let r : ReadsAs text (words_in source found) = subst (λ bytes. ReadsAs bytes (words_in source found)) (sym (e ∙ ap written words)) (words_again source found can.is.lexed) in
    let placed = words_of text r.lexemes in
    let same : bare placed ≡ bare (words_of source found) = words_bare text r.lexemes ∙ r.same ∙ sym (words_bare source found) in
    let a = read_elsewhere script (words_of source found) placed spelled (same_words placed (words_of source found) same) in
    record {
      again = record { items = a.again };
      is = record { lexemes = r.lexemes; lexed = r.spelled; spelled = found_of 0 placed (Ok (record { items = a.again })) (ap (answer_of 0 placed) a.read) };
      same = ap (λ xs. record { items = xs }) a.same;
    }

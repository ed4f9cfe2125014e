-- The words of a source, written, are read as the same words.
use Rattle.std.proofs.Common.{◌≡◌, ℕ, ◌+◌, ◌-◌, List, [], ◌∷◌, ◌++◌, length, take, drop, refl, sym, ap, ap₂, ◌∙◌, subst, append_assoc, arith}
use Rattle.std.proofs.Math.Seq.{drop-append-add}
use Rattle.std.proofs.lemmas.List.{length-append, take-append-le}
use Rattle.std.specs.List.{AllByRecursion}
use Rattle.cv_lex.specs.declared.lexeme.Sort.{Sort}
use Rattle.cv_lex.specs.declared.lexeme.Lexeme.{Lexeme}
use Rattle.cv_lex.specs.declared.word.Word.{Word}
use Rattle.cv_lex.specs.Spelling.{SpellsLexemes, nothing, blank, lexeme}
use Rattle.cv_lex.specs.Words.{word_of, placed_word}
use Rattle.cv_lex.proofs.Covers.{drop-front}
use Rattle.cv_lex.proofs.Right.{take-front}
use Rattle.cv_lex.proofs.Spaced.{lexeme_stands, space_stands}
use Rattle.cv_writing.specs.Written.{word_bytes, written, words_in, ReadsAs}
use Rattle.cv_writing.proofs.Lexicals.{inner, sort_of, IsWritable, word_writable}

-- ---- the word of a lexeme by its bytes

take_inner : (front rest : List ℕ) → take (length front - 2) (drop 1 (front ++ rest)) ≡ inner front
take_inner [] rest = refl
take_inner (b ∷ front) rest = take-append-le (length (b ∷ front) - 2) front rest (omega arith)

front_of : (at : ℕ) (before front rest : List ℕ) → length before ≡ at → take (at + length front - at) (drop at (before ++ (front ++ rest))) ≡ front
front_of at before front rest e =
    let count : at + length front - at ≡ length front = omega arith in
    ap (λ n. take n (drop at (before ++ (front ++ rest)))) count ∙ ap (λ n. take (length front) (drop n (before ++ (front ++ rest)))) (sym e)
    ∙ ap (take (length front)) (drop-front before (front ++ rest)) ∙ take-front front rest

inner_of : (at : ℕ) (before front rest : List ℕ) → length before ≡ at → take (at + length front - 1 - (at + 1)) (drop (at + 1) (before ++ (front ++ rest))) ≡ inner front
inner_of at before front rest e =
    let count : at + length front - 1 - (at + 1) ≡ length front - 2 = omega arith in
    ap (λ n. take n (drop (at + 1) (before ++ (front ++ rest)))) count ∙ ap (λ n. take (length front - 2) (drop (n + 1) (before ++ (front ++ rest)))) (sym e)
    ∙ ap (take (length front - 2)) (drop-append-add before (front ++ rest) 1) ∙ take_inner front rest

word_here : (sort : Sort) (at : ℕ) (before front rest : List ℕ) → length before ≡ at → (placed_word (before ++ (front ++ rest)) (record { sort = sort; at = at; len = length front })).word ≡ word_of sort front (inner front)
word_here sort at before front rest e = ap₂ (word_of sort) (front_of at before front rest e) (inner_of at before front rest e)

longer : (at : ℕ) (before front : List ℕ) → length before ≡ at → length (before ++ front) ≡ at + length front
longer at before front e = length-append before front ∙ ap (λ n. n + length front) e

-- ---- the words of a source can be written

abbrev AllWritable : List Word → Type 0
AllWritable = AllByRecursion IsWritable

source_writable : (at : ℕ) (before bytes : List ℕ) (found : List Lexeme) → SpellsLexemes at bytes found → length before ≡ at → AllWritable (words_in (before ++ bytes) found)
source_writable at before bytes found nothing e = tt
source_writable at before bytes found (blank {rest = rest} {lexemes = ls} front s h) e =
    subst (λ source. AllWritable (words_in source ls)) (append_assoc before front rest)
    (source_writable (at + length front) (before ++ front) rest ls h (longer at before front e))
source_writable at before bytes found (lexeme {rest = rest} {lexemes = ls} sort front s f h) e = (
  subst IsWritable (sym (word_here sort at before front rest e)) (word_writable sort front rest s.is f),
  subst (λ source. AllWritable (words_in source ls)) (append_assoc before front rest)
      (source_writable (at + length front) (before ++ front) rest ls h (longer at before front e)),
)

-- ---- what is written is read

-- the lexemes of what is written, from a place on
lexemes_of : ℕ → List Word → List Lexeme
lexemes_of at [] = []
lexemes_of at (w ∷ ws) = record { sort = sort_of w; at = at; len = length (word_bytes w) } ∷ lexemes_of (at + length (word_bytes w) + 1) ws

written_spells : (at : ℕ) (ws : List Word) → AllWritable ws → SpellsLexemes at (written ws) (lexemes_of at ws)
unfolding lexemes_of
written_spells at [] h = nothing
written_spells at (w ∷ ws) h =
    let i = h.0 (written ws) in
    lexeme (sort_of w) (word_bytes w) (lexeme_stands (sort_of w) (word_bytes w) (written ws) i.stands) i.fits
    (blank (32 ∷ []) (space_stands (written ws)) (written_spells (at + length (word_bytes w) + 1) ws h.1))

written_words : (at : ℕ) (before : List ℕ) (ws : List Word) → AllWritable ws → length before ≡ at → words_in (before ++ written ws) (lexemes_of at ws) ≡ ws
unfolding lexemes_of
written_words at before [] h e = refl
written_words at before (w ∷ ws) h e =
    let i = h.0 (written ws) in
    let front = word_bytes w in
    let next = before ++ (front ++ 32 ∷ []) in
    let place : length next ≡ at + length front + 1 = omega (arith, length-append before (front ++ 32 ∷ []), length-append front (32 ∷ []), e) in
    let all : next ++ written ws ≡ before ++ (front ++ 32 ∷ written ws) = append_assoc before (front ++ 32 ∷ []) (written ws) ∙ ap (λ z. before ++ z) (append_assoc front (32 ∷ []) (written ws)) in
    ap₂ (λ x xs. x ∷ xs) (word_here (sort_of w) at before front (32 ∷ written ws) e ∙ i.says)
    (subst (λ source. words_in source (lexemes_of (at + length front + 1) ws) ≡ ws) all (written_words (at + length front + 1) next ws h.1 place))

pub read_again : (source : List ℕ) (found : List Lexeme) → SpellsLexemes 0 source found → ReadsAs (written (words_in source found)) (words_in source found)
read_again source found s =
    let ws = words_in source found in
    let good : AllWritable ws = source_writable 0 [] source found s refl in
    record { lexemes = lexemes_of 0 ws; spelled = written_spells 0 ws good; same = written_words 0 [] ws good refl }

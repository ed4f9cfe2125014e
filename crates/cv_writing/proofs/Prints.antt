-- What is printed piece by piece.
use Rattle.std.proofs.Common.{◌≡◌, ℕ, ◌+◌, ◌<◌, List, [], ◌∷◌, ◌++◌, length, drop, get_or, Result, Ok, Err, OnOk, refl, sym, ap, ◌∙◌, append_assoc}
use Rattle.std.proofs.lemmas.List.{drop_more}
use Rattle.cv_token.specs.declared.pairs.Pair.{Pair}
use Rattle.cv_lex.specs.declared.word.Mark.{Mark}
use Rattle.cv_lex.specs.declared.word.Mark.TheVariants as marks
use Rattle.cv_readers.specs.Slots.{Slot, mark, opening, raise, place_first, all_slots, sep_slots, listed_slots}
use Rattle.cv_writing.specs.Written.{mark_bytes, word_bytes}
use Rattle.cv_syntax.specs.declared.tree.Literal.{Literal}
use Rattle.cv_syntax.specs.declared.tree.Literal.TheVariants as literals
use Rattle.cv_syntax.specs.declared.tree.JoinSource.{JoinSource}
use Rattle.cv_syntax.specs.declared.tree.JoinSource.TheVariants as sources
use Rattle.cv_syntax.specs.declared.tree.Factor.{Factor}
use Rattle.cv_syntax.specs.declared.tree.Factor.TheVariants as factors
use Rattle.cv_syntax.specs.Spelling.{in_level, literal_slots, source_slots, factor_slots, terms_slots}
use Rattle.cv_writing.specs.Printing.{printed, Adds, pair_slots, behind_mark, row}
use Rattle.cv_syntax.proofs.Literals.{pair_slots as literals_pair_slots, slots-List, slots-Dict}
use Rattle.cv_syntax.proofs.Factors.{slots-Not, slots-Group}

pub printed_append : (ss ts : List Slot) → printed (ss ++ ts) ≡ printed ss ++ printed ts
printed_append [] ts = refl
printed_append (s ∷ ss) ts = ap (λ z. word_bytes s.word ++ 32 ∷ z) (printed_append ss ts) ∙ sym (append_assoc (word_bytes s.word) (32 ∷ printed ss) (printed ts))

-- levels and places change no word
pub printed_raise : (ss : List Slot) → printed (raise ss) ≡ printed ss
printed_raise [] = refl
printed_raise (s ∷ ss) = ap (λ z. word_bytes s.word ++ 32 ∷ z) (printed_raise ss)

pub printed_place : (at : ℕ) (ss : List Slot) → printed (place_first at ss) ≡ printed ss
printed_place at [] = refl
printed_place at (s ∷ ss) = refl

-- a source's words are the same at any place
pub source_anywhere : (at : ℕ) (source : JoinSource) → printed (source_slots at source) ≡ printed (source_slots 0 source)
source_anywhere at sources.Voidport = refl
source_anywhere at (sources.Own port) = refl
source_anywhere at (sources.Port actor port) = refl
source_anywhere at (sources.Name name) = refl
source_anywhere at (sources.Literal literal) = printed_place at (literal_slots literal) ∙ sym (printed_place 0 (literal_slots literal))

-- words behind words
pub adds_both : (out mid next : List ℕ) (ss ts : List Slot) → Adds out mid ss → Adds mid next ts → Adds out next (ss ++ ts)
adds_both out mid next ss ts a b =
    b ∙ ap (λ z. z ++ printed ts) a ∙ append_assoc out (printed ss) (printed ts) ∙ ap (λ z. out ++ z) (sym (printed_append ss ts))

-- ---- rows

-- the first item is there, and a row is left
pub row_begun : {X : Type 0} (m : Mark) (spell : X → List Slot) (before out : List ℕ) (x : X) (rest all : List X) → all ≡ x ∷ rest → Adds before out (spell x) → out ++ row m spell rest ≡ before ++ printed (sep_slots m spell all)
row_begun m spell before out x rest all e a =
    ap (λ z. z ++ row m spell rest) a ∙ append_assoc before (printed (spell x)) (row m spell rest)
    ∙ ap (λ z. before ++ z) (sym (printed_append (spell x) (all_slots (behind_mark m spell) rest)) ∙ ap (λ z. printed (sep_slots m spell z)) (sym e))

-- one item more
all_next : {X : Type 0} (spell : X → List Slot) (out next whole : List ℕ) (xs : List X) (i : ℕ) (x : X) → drop i xs ≡ x ∷ drop (i + 1) xs → out ++ printed (all_slots spell (drop i xs)) ≡ whole → Adds out next (spell x) → next ++ printed (all_slots spell (drop (i + 1) xs)) ≡ whole
all_next spell out next whole xs i x split h a =
    ap (λ z. z ++ printed (all_slots spell (drop (i + 1) xs))) a ∙ append_assoc out (printed (spell x)) (printed (all_slots spell (drop (i + 1) xs)))
    ∙ ap (λ z. out ++ z) (sym (printed_append (spell x) (all_slots spell (drop (i + 1) xs))) ∙ ap (λ z. printed (all_slots spell z)) (sym split)) ∙ h

-- one item more of those that stand one behind another
pub item_next : {X : Type 0} (spell : X → List Slot) (out next whole : List ℕ) (xs : List X) (i : ℕ) (x : X) → i < length xs → x ≡ get_or xs i x → out ++ printed (all_slots spell (drop i xs)) ≡ whole → Adds out next (spell x) → next ++ printed (all_slots spell (drop (i + 1) xs)) ≡ whole
item_next spell out next whole xs i x l e h a =
    all_next spell out next whole xs i x (drop_more xs i x l ∙ ap (λ y. y ∷ drop (i + 1) xs) (sym e)) h a

-- one item more of a row
pub row_next : {X : Type 0} (m : Mark) (spell : X → List Slot) (out mid next whole : List ℕ) (xs : List X) (i : ℕ) (x : X) → i < length xs → x ≡ get_or xs i x → out ++ row m spell (drop i xs) ≡ whole → Adds out mid (mark m ∷ []) → Adds mid next (spell x) → next ++ row m spell (drop (i + 1) xs) ≡ whole
row_next m spell out mid next whole xs i x l e h a b =
    let split : drop i xs ≡ x ∷ drop (i + 1) xs = drop_more xs i x l ∙ ap (λ y. y ∷ drop (i + 1) xs) (sym e) in
    all_next (behind_mark m spell) out next whole xs i x split h (adds_both out mid next (mark m ∷ []) (spell x) a b)

-- what follows from what was ensured of an Ok
pub on_ok : {A E : Type 0} {P Q : Type 0} (r : Result A E) → (P → Q) → OnOk r P → OnOk r Q
on_ok (Ok x) f h = f h
on_ok (Err e) f h = tt

-- what nests, with the levels that it opens aside
pub level_parts : (m : Mark) (ss : List Slot) → printed (in_level (opening m) ss) ≡ printed (mark m ∷ ss)
level_parts m ss = ap (λ z. mark_bytes m ++ 32 ∷ z) (printed_raise ss)

pub adds_level : (out a next : List ℕ) (m : Mark) (ss : List Slot) → Adds out a (mark m ∷ []) → Adds a next ss → Adds out next (in_level (opening m) ss)
adds_level out a next m ss p q = adds_both out a next (mark m ∷ []) ss p q ∙ ap (λ z. out ++ z) (sym (level_parts m ss))

-- ---- literals

pub list_parts : (xs : List Literal) → printed (literal_slots (literals.List xs)) ≡ printed (mark marks.OpenBracket ∷ listed_slots marks.CloseBracket literal_slots xs)
list_parts xs = ap printed (slots-List xs) ∙ level_parts marks.OpenBracket (listed_slots marks.CloseBracket literal_slots xs)

pub dict_parts : (ps : List (Pair Literal)) → printed (literal_slots (literals.Dict ps)) ≡ printed (mark marks.OpenBrace ∷ listed_slots marks.CloseBrace pair_slots ps)
unfolding literals_pair_slots
dict_parts ps = ap printed (slots-Dict ps) ∙ level_parts marks.OpenBrace (listed_slots marks.CloseBrace pair_slots ps)

pub group_parts : (tss : List (List Factor)) → printed (factor_slots (factors.Group tss)) ≡ printed (mark marks.OpenParen ∷ (terms_slots tss ++ mark marks.CloseParen ∷ []))
group_parts tss = ap printed (slots-Group tss) ∙ level_parts marks.OpenParen (terms_slots tss ++ mark marks.CloseParen ∷ [])

pub adds_not : (out a next : List ℕ) (factor inner got : Factor) → factor ≡ factors.Not inner → got ≡ inner → Adds out a (mark marks.Tilde ∷ []) → Adds a next (factor_slots got) → Adds out next (factor_slots factor)
adds_not out a next factor inner got e g p q =
    adds_level out a next marks.Tilde (factor_slots got) p q
    ∙ ap (λ ss. out ++ printed ss) (ap (λ x. in_level (opening marks.Tilde) (factor_slots x)) g ∙ sym (slots-Not inner) ∙ ap factor_slots (sym e))

-- words in brackets, with the levels that they open aside
pub adds_closed : (out a b next : List ℕ) (first last : Slot) (ss all : List Slot) → printed all ≡ printed (first ∷ (ss ++ last ∷ [])) → Adds out a (first ∷ []) → Adds a b ss → Adds b next (last ∷ []) → Adds out next all
adds_closed out a b next first last ss all e p q r =
    adds_both out a next (first ∷ []) (ss ++ last ∷ []) p (adds_both a b next ss (last ∷ []) q r) ∙ ap (λ z. out ++ z) (sym e)

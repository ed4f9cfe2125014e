-- The readers of one word keep their promises.
use Rattle.std.proofs.Common.{◌≡◌, ℕ, Bool, true, false, cond, eqb, Some, List, [], ◌∷◌, Ok, refl, ap, sym, ◌∙◌, eq-eqb, arith}
use borrow.Author.Tests.{eqb-true}
use Rattle.cv_lex.specs.declared.word.Mark.{Mark}
use Rattle.cv_lex.specs.declared.word.Mark.TheVariants as marks
use Rattle.cv_lex.specs.declared.word.Reserved.{Reserved}
use Rattle.cv_lex.specs.declared.word.Reserved.TheVariants as reserved
use Rattle.cv_lex.specs.declared.word.Word.{Word}
use Rattle.cv_lex.specs.declared.word.Word.TheVariants as words
use Rattle.cv_lex.specs.declared.word.Placed.{Placed}
use Rattle.cv_readers.specs.declared.name.Name.{Name}
use Rattle.cv_readers.specs.Reading.{Reader, ◌>>=◌, word_at, found_word, first_is, behind, when, is_mark, is_reserved, mark_no, reserved_no, mark_at, reserved_at, name_in, name_at, text_in, text_at, bare_in, bare_at}
use Rattle.cv_readers.specs.Slots.{just, placed, mark}
use Rattle.cv_readers.proofs.Promises.{never, Reads, word_reads}

-- ---- a mark is told by its number

mark_of : ℕ → Mark
mark_of n =
    cond (eqb n 0) marks.OpenParen (cond (eqb n 1) marks.CloseParen (cond (eqb n 2) marks.OpenBrace (cond (eqb n 3) marks.CloseBrace
    (cond (eqb n 4) marks.OpenBracket (cond (eqb n 5) marks.CloseBracket (cond (eqb n 6) marks.Comma (cond (eqb n 7) marks.Colon
    (cond (eqb n 8) marks.Dot (cond (eqb n 9) marks.Equals (cond (eqb n 10) marks.Greater (cond (eqb n 11) marks.Ampersand
    (cond (eqb n 12) marks.Bar (cond (eqb n 13) marks.Tilde marks.Arrow)))))))))))))

mark_back : (m : Mark) → mark_of (mark_no m) ≡ m
unfolding mark_of
mark_back marks.OpenParen = refl
mark_back marks.CloseParen = refl
mark_back marks.OpenBrace = refl
mark_back marks.CloseBrace = refl
mark_back marks.OpenBracket = refl
mark_back marks.CloseBracket = refl
mark_back marks.Comma = refl
mark_back marks.Colon = refl
mark_back marks.Dot = refl
mark_back marks.Equals = refl
mark_back marks.Greater = refl
mark_back marks.Ampersand = refl
mark_back marks.Bar = refl
mark_back marks.Tilde = refl
mark_back marks.Arrow = refl

reserved_of : ℕ → Reserved
reserved_of n =
    cond (eqb n 0) reserved.Component (cond (eqb n 1) reserved.Define (cond (eqb n 2) reserved.Rule (cond (eqb n 3) reserved.Apply
    (cond (eqb n 4) reserved.Voidport (cond (eqb n 5) reserved.True (cond (eqb n 6) reserved.False reserved.Null))))))

reserved_back : (r : Reserved) → reserved_of (reserved_no r) ≡ r
unfolding reserved_of
reserved_back reserved.Component = refl
reserved_back reserved.Define = refl
reserved_back reserved.Rule = refl
reserved_back reserved.Apply = refl
reserved_back reserved.Voidport = refl
reserved_back reserved.True = refl
reserved_back reserved.False = refl
reserved_back reserved.Null = refl

pub mark_self : (m : Mark) → is_mark m (words.Mark m) ≡ true
mark_self m = eq-eqb (mark_no m) (mark_no m) refl

pub reserved_self : (r : Reserved) → is_reserved r (words.Reserved r) ≡ true
reserved_self r = eq-eqb (reserved_no r) (reserved_no r) refl

pub mark_is : (m : Mark) (w : Word) → is_mark m w ≡ true → words.Mark m ≡ w
mark_is m (words.Mark k) e = ap (λ z. words.Mark z) (sym (mark_back m) ∙ ap mark_of (eqb-true (mark_no m) (mark_no k) e) ∙ mark_back k)
mark_is m _ e = cc

pub reserved_is : (r : Reserved) (w : Word) → is_reserved r w ≡ true → words.Reserved r ≡ w
reserved_is r (words.Reserved k) e = ap (λ z. words.Reserved z) (sym (reserved_back r) ∙ ap reserved_of (eqb-true (reserved_no r) (reserved_no k) e) ∙ reserved_back k)
reserved_is r _ e = cc

-- ---- something where a test holds

pub when_some : {X : Type 0} (b : Bool) (x y : X) → when b x ≡ Some y → (b ≡ true) × (x ≡ y)
when_some true x y e = (refl, cc)
when_some false x y e = cc

pub mark_reads : (n : ℕ) (m : Mark) → Reads n (mark_at m) (λ u. mark m ∷ []) (λ u. Unit {0}) never (λ u. never)
mark_reads n m =
    word_reads n (λ w. when (is_mark m w.word) tt) (λ u. mark m) (λ u. omega arith)
    (λ w u e. (mark_is m w.word ((when_some (is_mark m w.word) tt u e).0), tt))
    (λ w u f. ap (λ z. when (is_mark m z) tt) (sym f.0) ∙ ap (λ b. when b tt) (mark_self m)) tt

pub reserved_reads : (n : ℕ) (r : Reserved) → Reads n (reserved_at r) (λ at. placed (words.Reserved r) at ∷ []) (λ at. Unit {0}) never (λ at. never)
reserved_reads n r =
    word_reads n (λ w. when (is_reserved r w.word) w.at) (λ at. placed (words.Reserved r) at) (λ at. omega arith)
    (λ w at e. let p = when_some (is_reserved r w.word) w.at at e in (reserved_is r w.word p.0, sym p.1))
    (λ w at f. ap (λ z. when (is_reserved r z) w.at) (sym f.0) ∙ ap (λ b. when b w.at) (reserved_self r) ∙ ap (λ z. Some z) (sym f.1)) 0

name_good : (at : ℕ) (w : Word) (x : Name) → name_in at w ≡ Some x → (words.Name x.text ≡ w) × (x.at ≡ at)
name_good at (words.Name text) x e =
    let same : record { text = text; at = at } ≡ x = cc in
    (ap (λ z. words.Name z.text) (sym same), ap (λ z. z.at) (sym same))
name_good at _ x e = cc

pub name_reads : (n : ℕ) → Reads n name_at (λ x. placed (words.Name x.text) x.at ∷ []) (λ x. Unit {0}) never (λ x. never)
name_reads n =
    word_reads n (λ w. name_in w.at w.word) (λ x. placed (words.Name x.text) x.at) (λ x. omega arith)
    (λ w x e. name_good w.at w.word x e)
    (λ w x f. ap (name_in w.at) (sym f.0) ∙ ap (λ at. Some (record { text = x.text; at = at })) (sym f.1)) (record { text = []; at = 0 })

text_good : (w : Word) (x : List ℕ) → text_in w ≡ Some x → words.Text x ≡ w
text_good (words.Text text) x e = let same : text ≡ x = cc in ap (λ z. words.Text z) (sym same)
text_good _ x e = cc

pub text_reads : (n : ℕ) → Reads n text_at (λ x. just (words.Text x) ∷ []) (λ x. Unit {0}) never (λ x. never)
text_reads n = word_reads n (λ w. text_in w.word) (λ x. just (words.Text x)) (λ x. omega arith) (λ w x e. (text_good w.word x e, tt)) (λ w x f. ap text_in (sym f.0)) []

bare_good : (w : Word) (x : List ℕ) → bare_in w ≡ Some x → words.Name x ≡ w
bare_good (words.Name text) x e = let same : text ≡ x = cc in ap (λ z. words.Name z) (sym same)
bare_good _ x e = cc

pub bare_reads : (n : ℕ) → Reads n bare_at (λ x. just (words.Name x) ∷ []) (λ x. Unit {0}) never (λ x. never)
bare_reads n = word_reads n (λ w. bare_in w.word) (λ x. just (words.Name x)) (λ x. omega arith) (λ w x e. (bare_good w.word x e, tt)) (λ w x f. ap bare_in (sym f.0)) []

-- a reserved name whose place is not kept
pub reserved_word : Reserved → Reader (Unit {0})
reserved_word r = word_at (λ w. when (is_reserved r w.word) tt)

pub reserved_word_reads : (n : ℕ) (r : Reserved) → Reads n (reserved_word r) (λ u. just (words.Reserved r) ∷ []) (λ u. Unit {0}) never (λ u. never)
unfolding reserved_word
reserved_word_reads n r =
    word_reads n (λ w. when (is_reserved r w.word) tt) (λ u. just (words.Reserved r)) (λ u. omega arith)
    (λ w u e. (reserved_is r w.word ((when_some (is_reserved r w.word) tt u e).0), tt))
    (λ w u f. ap (λ z. when (is_reserved r z) tt) (sym f.0) ∙ ap (λ b. when b tt) (reserved_self r)) tt

pub reserved_first : (r : Reserved) (ws : List Placed) → first_is (is_reserved r) ws ≡ true → reserved_word r ws ≡ Ok (tt, behind ws)
unfolding reserved_word
reserved_first r [] e = cc
reserved_first r (w ∷ ws) e = ap (λ b. found_word (when b tt) w ws) e

skip_by : {X : Type 0} (r : Reserved) (R : Reader X) (w : Placed) (ws : List Placed) (b : Bool) → (found_word (when b w.at) w ws >>= λ d. R d.1) ≡ (found_word (when b (tt {0})) w ws >>= λ d. R d.1)
skip_by r R w ws true = refl
skip_by r R w ws false = refl

-- what stands behind a reserved name whose place is let go
pub reserved_skip : {X : Type 0} (r : Reserved) (R : Reader X) (ws : List Placed) → (reserved_at r ws >>= λ d. R d.1) ≡ (reserved_word r ws >>= λ d. R d.1)
unfolding reserved_word
reserved_skip r R [] = refl
reserved_skip r R (w ∷ ws) = skip_by r R w ws (is_reserved r w.word)

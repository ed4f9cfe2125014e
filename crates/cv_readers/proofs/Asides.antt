-- Readers that answer alike on the same words at other places.
use Rattle.std.proofs.Common.{◌≡◌, ℕ, zero, suc, ◌==◌, ◌&&◌, Bool, true, false, cond, Option, Some, None, option_map, List, [], ◌∷◌, map, nat_lt, length, Ok, Err, refl, ap, ◌∙◌}
use Rattle.cv_lex.specs.declared.word.Mark.{Mark}
use Rattle.cv_lex.specs.declared.word.Mark.TheVariants as marks
use Rattle.cv_lex.specs.declared.word.Reserved.{Reserved}
use Rattle.cv_lex.specs.declared.word.Word.{Word}
use Rattle.cv_lex.specs.declared.word.Placed.{Placed}
use Rattle.cv_readers.specs.Reading.{Read, Reader, ◌>>=◌, found_word, word_at, when, is_mark, is_reserved, mark_at, reserved_at, first_is, behind, place_of, open_at, too_deep}
use Rattle.cv_readers.specs.Combining.{mapped, closed, after, one_more, star, many, sep, listed}

-- ---- words with their places put to 0

abbrev pub zeroed : Placed → Placed
zeroed w = record { word = w.word; at = 0 }

-- the same words, each at 0
abbrev pub all_zeroed : List Placed → List Placed
all_zeroed [] = []
all_zeroed (w ∷ ws) = zeroed w ∷ all_zeroed ws

pub length_zeroed : (ws : List Placed) → length (all_zeroed ws) ≡ length ws
length_zeroed [] = refl
length_zeroed (w ∷ ws) = ap suc (length_zeroed ws)

pub first_zeroed : (p : Word → Bool) (ws : List Placed) → first_is p (all_zeroed ws) ≡ first_is p ws
first_zeroed p [] = refl
first_zeroed p (w ∷ ws) = refl

pub behind_zeroed : (ws : List Placed) → behind (all_zeroed ws) ≡ all_zeroed (behind ws)
behind_zeroed [] = refl
behind_zeroed (w ∷ ws) = refl

pub place_zeroed : (ws : List Placed) → place_of (all_zeroed ws) ≡ 0
place_zeroed [] = refl
place_zeroed (w ∷ ws) = refl

pub none_zeroed : (ws : List Placed) → all_zeroed ws ≡ [] → ws ≡ []
none_zeroed [] e = refl
none_zeroed (w ∷ ws) e = cc

-- ---- readers that do the same there

-- what was read with its places aside, and the words behind it with theirs at 0
abbrev pub aside : {X : Type 0} → (X → X) → Read X → Read X
aside s (Ok p) = Ok (s p.0, all_zeroed p.1)
aside s (Err miss) = Err miss

-- the reader reads the same, places aside, where each word is at 0
abbrev pub Blind : {X : Type 0} → (X → X) → Reader X → Type 0
Blind s R = (ws : List Placed) → R (all_zeroed ws) ≡ aside s (R ws)

-- no places
abbrev pub same : {X : Type 0} → X → X
same x = x

pub aside_bind : {X Y : Type 0} (s : X → X) (t : Y → Y) (a b : Read X) (f g : X × List Placed → Read Y) → a ≡ aside s b → ((p : X × List Placed) → f (s p.0, all_zeroed p.1) ≡ aside t (g p)) → a >>= f ≡ aside t (b >>= g)
aside_bind s t a (Ok p) f g e h = ap (λ r. r >>= f) e ∙ h p
aside_bind s t a (Err miss) f g e h = ap (λ r. r >>= f) e

pub aside_mapped : {X Y : Type 0} (s : X → X) (t : Y → Y) (form grown : X → Y) (a b : Read X) → a ≡ aside s b → ((x : X) → form (s x) ≡ t (grown x)) → mapped form a ≡ aside t (mapped grown b)
aside_mapped {X} {Y} s t form grown a (Ok p) e h =
    let read : Y → Read Y = λ y. Ok (y, all_zeroed p.1) in
    ap (mapped form) e ∙ ap read (h p.0)
aside_mapped s t form grown a (Err miss) e h = ap (mapped form) e

pub aside_cond : {X : Type 0} (s : X → X) (b c : Bool) (a r d q : Read X) → b ≡ c → a ≡ aside s d → r ≡ aside s q → cond b a r ≡ aside s (cond c d q)
aside_cond s b true a r d q e f g = ap (λ t. cond t a r) e ∙ f
aside_cond s b false a r d q e f g = ap (λ t. cond t a r) e ∙ g

pub deep_blind : {X : Type 0} (s : X → X) → Blind s (λ ws. too_deep {X = X} ws)
deep_blind s ws = ap (λ n. Err (record { deep = true; left = n })) (length_zeroed ws)

-- the words behind the first
pub behind_blind : {X : Type 0} (s : X → X) (R : Reader X) → Blind s R → (ws : List Placed) → R (behind (all_zeroed ws)) ≡ aside s (R (behind ws))
behind_blind s R h ws = ap R (behind_zeroed ws) ∙ h (behind ws)

-- ---- one word

found_blind : {X : Type 0} (s : X → X) (o p : Option X) (w : Placed) (ws : List Placed) → o ≡ option_map s p → found_word o (zeroed w) (all_zeroed ws) ≡ aside s (found_word p w ws)
found_blind s o (Some x) w ws e = ap (λ z. found_word z (zeroed w) (all_zeroed ws)) e
found_blind s o None w ws e =
    ap (λ z. found_word z (zeroed w) (all_zeroed ws)) e ∙ ap (λ n. Err (record { deep = false; left = n })) (length_zeroed (w ∷ ws))

pub word_blind : {X : Type 0} (s : X → X) (what : Placed → Option X) → ((w : Placed) → what (zeroed w) ≡ option_map s (what w)) → Blind s (word_at what)
word_blind s what h [] = refl
word_blind s what h (w ∷ ws) = found_blind s (what (zeroed w)) (what w) w ws (h w)

same_option : {X : Type 0} (o : Option X) → o ≡ option_map same o
same_option (Some x) = refl
same_option None = refl

-- a word whose place is not kept
pub bare_blind : {X : Type 0} (what : Word → Option X) → Blind same (word_at (λ w. what w.word))
bare_blind what = word_blind same (λ w. what w.word) (λ w. same_option (what w.word))

pub mark_blind : (m : Mark) → Blind same (mark_at m)
mark_blind m = bare_blind (λ w. when (is_mark m w) tt)

when_zero : (b : Bool) (n : ℕ) → when {X = ℕ} b 0 ≡ option_map (λ (k : ℕ). 0) (when {X = ℕ} b n)
when_zero true n = refl
when_zero false n = refl

pub reserved_blind : (r : Reserved) → Blind (λ (n : ℕ). 0) (reserved_at r)
reserved_blind r = word_blind (λ (n : ℕ). 0) (λ w. when (is_reserved r w.word) w.at) (λ w. when_zero (is_reserved r w.word) w.at)

pub open_blind : (m : Mark) (n : ℕ) → Blind same (open_at m n)
open_blind m n ws =
    aside_cond same ((n == 0) && first_is (is_mark m) (all_zeroed ws)) ((n == 0) && first_is (is_mark m) ws) _ _ _ _
    (ap (λ b. (n == 0) && b) (first_zeroed (is_mark m) ws)) (deep_blind same ws) (mark_blind m ws)

-- ---- readers made of readers

pub closed_blind : {X : Type 0} (s : X → X) (close : Mark) (a b : Read X) → a ≡ aside s b → closed close a ≡ aside s (closed close b)
closed_blind s close a b e =
    aside_bind s s a b _ _ e (λ p. aside_mapped same s (λ u. s p.0) (λ u. p.0) (mark_at close (all_zeroed p.1)) (mark_at close p.1) (mark_blind close p.1) (λ u. refl))

pub after_blind : {X : Type 0} (s : X → X) (m : Mark) (R : Reader X) → Blind s R → Blind s (after m R)
after_blind s m R h ws = aside_bind same s (mark_at m (all_zeroed ws)) (mark_at m ws) (λ r. R r.1) (λ r. R r.1) (mark_blind m ws) (λ p. h p.1)

more_blind : {X : Type 0} (s : X → X) (before : ℕ) (more : Reader (List X)) → Blind (map s) more → (x : X × List Placed) → one_more before more (s x.0, all_zeroed x.1) ≡ aside (map s) (one_more before more x)
more_blind {X} s before more h x =
    aside_cond (map s) _ _ _ _ _ _ (ap (λ n. nat_lt n before) (length_zeroed x.1))
    (aside_mapped (map s) (map s) (λ xs. s x.0 ∷ xs) (λ xs. x.0 ∷ xs) (more (all_zeroed x.1)) (more x.1) (h x.1) (λ xs. refl)) refl

star_blind : {X : Type 0} (s : X → X) (p : Word → Bool) (R : Reader X) → Blind s R → (n : ℕ) → Blind (map s) (star p R n)
star_blind s p R h zero ws = refl
star_blind s p R h (suc n) ws =
    aside_cond (map s) (first_is p (all_zeroed ws)) (first_is p ws) _ _ _ _ (first_zeroed p ws)
    (aside_bind s (map s) (R (all_zeroed ws)) (R ws) (one_more (length (all_zeroed ws)) (star p R n)) (one_more (length ws) (star p R n)) (h ws)
    (λ x. ap (λ k. one_more k (star p R n) (s x.0, all_zeroed x.1)) (length_zeroed ws) ∙ more_blind s (length ws) (star p R n) (star_blind s p R h n) x)) refl

pub many_blind : {X : Type 0} (s : X → X) (p : Word → Bool) (R : Reader X) → Blind s R → Blind (map s) (many p R)
unfolding many
many_blind s p R h ws = ap (λ n. star p R n (all_zeroed ws)) (length_zeroed ws) ∙ star_blind s p R h (length ws) ws

pub sep_blind : {X : Type 0} (s : X → X) (m : Mark) (R : Reader X) → Blind s R → Blind (map s) (sep m R)
unfolding sep
sep_blind s m R h ws =
    aside_bind s (map s) (R (all_zeroed ws)) (R ws) _ _ (h ws) (λ x. aside_mapped (map s) (map s) (λ xs. s x.0 ∷ xs) (λ xs. x.0 ∷ xs) _ _
    (many_blind s (is_mark m) (after m R) (after_blind s m R h) x.1) (λ xs. refl))

pub listed_blind : {X : Type 0} (s : X → X) (close : Mark) (R : Reader X) → Blind s R → Blind (map s) (listed close R)
unfolding listed
listed_blind {X} s close R h ws =
    let none : List Placed → Read (List X) = λ rest. Ok ([], rest) in
    aside_cond (map s) (first_is (is_mark close) (all_zeroed ws)) (first_is (is_mark close) ws) _ _ _ _ (first_zeroed (is_mark close) ws)
    (ap none (behind_zeroed ws)) (closed_blind (map s) close (sep marks.Comma R (all_zeroed ws)) (sep marks.Comma R ws) (sep_blind s marks.Comma R h ws))

-- A reading that does not stop at a level too many stays with more levels.
use Rattle.std.proofs.Common.{◌≡◌, ℕ, zero, suc, ◌≤◌, ◌==◌, ◌&&◌, Bool, true, false, cond, List, [], ◌∷◌, length, Ok, Err, refl, ap, sym, subst, arith}
use Rattle.std.proofs.lemmas.Bool.{ne_eqb}
use Rattle.cv_lex.specs.declared.word.Mark.{Mark}
use Rattle.cv_lex.specs.declared.word.Mark.TheVariants as marks
use Rattle.cv_lex.specs.declared.word.Word.{Word}
use Rattle.cv_lex.specs.declared.word.Placed.{Placed}
use Rattle.cv_readers.specs.Reading.{Read, Reader, ◌>>=◌, first_is, behind, is_mark, mark_at, open_at, too_deep}
use Rattle.cv_readers.specs.Combining.{mapped, with_front, closed, after, one_more, star, many, sep, listed}

-- the same answer, but where the first stops at a level too many
abbrev pub Kept : {X : Type 0} → Read X → Read X → Type 0
Kept (Ok p) r = r ≡ Ok p
Kept (Err miss) r = miss.deep ≡ false → r ≡ Err miss

-- one reader has no more levels than the other
abbrev pub Rises : {X : Type 0} → Reader X → Reader X → Type 0
Rises R S = (ws : List Placed) → Kept (R ws) (S ws)

pub kept_same : {X : Type 0} (a : Read X) → Kept a a
kept_same (Ok p) = refl
kept_same (Err miss) = λ d. refl

pub kept_bind : {X Y : Type 0} (a b : Read X) (f g : X × List Placed → Read Y) → Kept a b → ((p : X × List Placed) → Kept (f p) (g p)) → Kept (a >>= f) (b >>= g)
kept_bind (Ok p) b f g e h = subst (λ z. Kept (f p) (z >>= g)) (sym e) (h p)
kept_bind (Err miss) b f g e h = λ d. ap (λ z. z >>= g) (e d)

pub kept_mapped : {X Y : Type 0} (form : X → Y) (a b : Read X) → Kept a b → Kept (mapped form a) (mapped form b)
kept_mapped form (Ok p) b e = ap (mapped form) e
kept_mapped form (Err miss) b e = λ d. ap (mapped form) (e d)

pub kept_cond : {X : Type 0} (b : Bool) (a c r s : Read X) → Kept a c → Kept r s → Kept (cond b a r) (cond b c s)
kept_cond true a c r s e f = e
kept_cond false a c r s e f = f

pub kept_closed : {X : Type 0} (close : Mark) (a b : Read X) → Kept a b → Kept (closed close a) (closed close b)
kept_closed close a b e = kept_bind a b (λ x. mapped (λ (u : Unit {0}). x.0) (mark_at close x.1)) (λ x. mapped (λ (u : Unit {0}). x.0) (mark_at close x.1)) e (λ p. kept_same (mapped (λ (u : Unit {0}). p.0) (mark_at close p.1)))

pub rises_after : {X : Type 0} (m : Mark) (R S : Reader X) → Rises R S → Rises (after m R) (after m S)
rises_after m R S h ws = kept_bind (mark_at m ws) (mark_at m ws) (λ r. R r.1) (λ r. S r.1) (kept_same (mark_at m ws)) (λ p. h p.1)

more_kept : {X : Type 0} (before : ℕ) (f g : Reader (List X)) (x : X × List Placed) → Kept (f x.1) (g x.1) → Kept (one_more before f x) (one_more before g x)
more_kept {X} before f g x e =
    let one : Read (List X) = Ok (x.0 ∷ [], x.1) in
    kept_cond _ (with_front (x.0 ∷ []) (f x.1)) (with_front (x.0 ∷ []) (g x.1)) one one (kept_mapped (λ xs. x.0 ∷ xs) (f x.1) (g x.1) e) refl

rises_star : {X : Type 0} (p : Word → Bool) (R S : Reader X) → Rises R S → (n : ℕ) → Rises (star p R n) (star p S n)
rises_star p R S h zero ws = refl
rises_star {X} p R S h (suc n) ws =
    let none : Read (List X) = Ok ([], ws) in
    kept_cond (first_is p ws) (R ws >>= one_more (length ws) (star p R n)) (S ws >>= one_more (length ws) (star p S n)) none none
    (kept_bind (R ws) (S ws) (one_more (length ws) (star p R n)) (one_more (length ws) (star p S n)) (h ws)
    (λ x. more_kept (length ws) (star p R n) (star p S n) x (rises_star p R S h n x.1))) refl

pub rises_many : {X : Type 0} (p : Word → Bool) (R S : Reader X) → Rises R S → Rises (many p R) (many p S)
unfolding many
rises_many p R S h ws = rises_star p R S h (length ws) ws

pub rises_sep : {X : Type 0} (m : Mark) (R S : Reader X) → Rises R S → Rises (sep m R) (sep m S)
unfolding sep
rises_sep {X} m R S h ws =
    let f : X × List Placed → Read (List X) = λ x. with_front (x.0 ∷ []) (many (is_mark m) (after m R) x.1) in
    let g : X × List Placed → Read (List X) = λ x. with_front (x.0 ∷ []) (many (is_mark m) (after m S) x.1) in
    kept_bind (R ws) (S ws) f g (h ws) (λ x. kept_mapped (λ xs. x.0 ∷ xs) (many (is_mark m) (after m R) x.1) (many (is_mark m) (after m S) x.1) (rises_many (is_mark m) (after m R) (after m S) (rises_after m R S h) x.1))

pub rises_listed : {X : Type 0} (close : Mark) (R S : Reader X) → Rises R S → Rises (listed close R) (listed close S)
unfolding listed
rises_listed {X} close R S h ws =
    let none : Read (List X) = Ok ([], behind ws) in
    kept_cond (first_is (is_mark close) ws) none none (closed close (sep marks.Comma R ws)) (closed close (sep marks.Comma S ws)) refl (kept_closed close (sep marks.Comma R ws) (sep marks.Comma S ws) (rises_sep marks.Comma R S h ws))

-- ---- levels

kept_open : (m : Mark) (b : Bool) (ws : List Placed) (r : Read (Unit {0})) → r ≡ mark_at m ws → Kept (cond b (too_deep ws) (mark_at m ws)) r
kept_open m true ws r e = λ d. cc
kept_open m false ws r e = subst (Kept (mark_at m ws)) (sym e) (kept_same (mark_at m ws))

pub rises_open : (m : Mark) (n k : ℕ) → n ≤ k → Rises (open_at m n) (open_at m k)
rises_open m zero zero l ws = kept_same (open_at m 0 ws)
rises_open m (suc n) zero l ws = absurd (omega arith)
rises_open m n (suc k) l ws =
    kept_open m ((n == 0) && first_is (is_mark m) ws) ws (open_at m (suc k) ws) (ap (λ b. cond (b && first_is (is_mark m) ws) (too_deep ws) (mark_at m ws)) (ne_eqb (suc k) 0 (λ e. omega arith)))

-- Items that are read one behind another: what the next one leaves to be read.
use Rattle.std.proofs.Common.{◌≡◌, ℕ, zero, suc, ◌<◌, ◌≤◌, Bool, true, false, cond, ltb, List, [], ◌∷◌, ◌++◌, length, Ok, Err, refl, ap, sym, ◌∙◌, subst, append_assoc, append-nil, lt-ltb, arith}
use borrow.Author.Tests.{ltb-true}
use Rattle.cv_lex.specs.declared.word.Mark.{Mark}
use Rattle.cv_lex.specs.declared.word.Word.{Word}
use Rattle.cv_lex.specs.declared.word.Placed.{Placed}
use Rattle.cv_readers.specs.declared.stop.Stop.{Stop}
use Rattle.cv_readers.specs.declared.stop.Stop.TheVariants as stops
use Rattle.cv_readers.specs.Reading.{Read, Reader, Fails, ◌>>=◌, is_mark, first_is, behind}
use Rattle.cv_readers.specs.Combining.{with_front, after, one_more, star, many}

chosen : {X : Type 0} (before : ℕ) (f g : Reader (List X)) → ((ws : List Placed) → length ws < before → f ws ≡ g ws) → (x : X × List Placed) (b : Bool) → ltb (length x.1) before ≡ b → cond b (with_front (x.0 ∷ []) (f x.1)) (Ok (x.0 ∷ [], x.1)) ≡ cond b (with_front (x.0 ∷ []) (g x.1)) (Ok (x.0 ∷ [], x.1))
chosen before f g h x true e = ap (with_front (x.0 ∷ [])) (h x.1 (ltb-true (length x.1) before e))
chosen before f g h x false e = refl

same_more : {X : Type 0} (before : ℕ) (f g : Reader (List X)) → ((ws : List Placed) → length ws < before → f ws ≡ g ws) → (read : Read X) → (read >>= one_more before f) ≡ (read >>= one_more before g)
same_more before f g h (Ok x) = chosen before f g h x (ltb (length x.1) before) refl
same_more before f g h (Err miss) = refl

-- as many as there are words is enough
star_enough : {X : Type 0} (p : Word → Bool) (R : Reader X) (k n : ℕ) (ws : List Placed) → length ws ≤ k → length ws ≤ n → star p R k ws ≡ star p R n ws
star_enough p R zero zero ws a b = refl
star_enough p R zero (suc n) [] a b = refl
star_enough p R zero (suc n) (w ∷ ws) a b = absurd (omega arith)
star_enough p R (suc k) zero [] a b = refl
star_enough p R (suc k) zero (w ∷ ws) a b = absurd (omega arith)
star_enough p R (suc k) (suc n) ws a b =
    ap (λ r. cond (first_is p ws) r (Ok ([], ws)))
    (same_more (length ws) (star p R k) (star p R n) (λ rest lt. star_enough p R k n rest (omega arith) (omega arith)) (R ws))

pub many_over : {X : Type 0} (p : Word → Bool) (R : Reader X) (ws : List Placed) → first_is p ws ≡ false → many p R ws ≡ Ok ([], ws)
unfolding many
many_over p R [] e = refl
many_over p R (w ∷ ws) e = rw e refl

pub many_more : {X : Type 0} (p : Word → Bool) (R : Reader X) (ws : List Placed) (x : X) (rest : List Placed) → first_is p ws ≡ true → R ws ≡ Ok (x, rest) → length rest < length ws → many p R ws ≡ with_front (x ∷ []) (many p R rest)
unfolding many
many_more p R [] x rest e r lt = absurd (omega arith)
many_more p R (w ∷ ws) x rest e r lt =
    let small : ltb (length rest) (length (w ∷ ws)) ≡ true = lt-ltb _ _ lt in
    rw (e, r, small) (ap (with_front (x ∷ [])) (star_enough p R (length ws) (length rest) rest (omega arith) (omega arith)))

pub many_stops : {X : Type 0} (p : Word → Bool) (R : Reader X) (ws : List Placed) (miss : _) → first_is p ws ≡ true → R ws ≡ Err miss → many p R ws ≡ Err miss
unfolding many
many_stops p R [] miss e r = cc
many_stops p R (w ∷ ws) miss e r = rw (e, r) refl

-- ---- the same below what was read before

front_twice : {X : Type 0} (a b : List X) (read : Read (List X)) → with_front a (with_front b read) ≡ with_front (a ++ b) read
front_twice a b (Ok x) = rw append_assoc refl
front_twice a b (Err miss) = refl

pub loop_next : {X : Type 0} (p : Word → Bool) (R : Reader X) (front : List X) (ws : List Placed) (x : X) (rest : List Placed) (whole : Read (List X)) → with_front front (many p R ws) ≡ whole → first_is p ws ≡ true → R ws ≡ Ok (x, rest) → length rest < length ws → with_front (front ++ x ∷ []) (many p R rest) ≡ whole
loop_next p R front ws x rest whole inv e r lt =
    sym (front_twice front (x ∷ []) (many p R rest)) ∙ ap (with_front front) (sym (many_more p R ws x rest e r lt)) ∙ inv

pub loop_over : {X : Type 0} (p : Word → Bool) (R : Reader X) (front : List X) (ws : List Placed) (whole : Read (List X)) → with_front front (many p R ws) ≡ whole → first_is p ws ≡ false → whole ≡ Ok (front, ws)
loop_over p R front ws whole inv e = sym inv ∙ ap (with_front front) (many_over p R ws e) ∙ ap (λ xs. Ok (xs, ws)) (append-nil front)

stopped : {X : Type 0} (p : Word → Bool) (R : Reader X) (front : List X) (ws : List Placed) (miss : _) (whole : Read (List X)) → with_front front (many p R ws) ≡ whole → first_is p ws ≡ true → R ws ≡ Err miss → whole ≡ Err miss
stopped p R front ws miss whole inv e r = sym inv ∙ ap (with_front front) (many_stops p R ws miss e r)

pub loop_fails : {X : Type 0} (p : Word → Bool) (R : Reader X) (front : List X) (ws : List Placed) (stop : Stop) (whole : Read (List X)) → with_front front (many p R ws) ≡ whole → first_is p ws ≡ true → Fails stop (R ws) → Fails stop whole
loop_fails p R front ws (stops.Unexpected n) whole inv e r = stopped p R front ws _ whole inv e r
loop_fails p R front ws (stops.TooDeep n) whole inv e r = stopped p R front ws _ whole inv e r
loop_fails p R front ws stops.OutOfMemory whole inv e r = tt

-- behind a mark that stands first
pub after_mark : {X : Type 0} (m : Mark) (R : Reader X) (ws : List Placed) → first_is (is_mark m) ws ≡ true → after m R ws ≡ R (behind ws)
after_mark m R [] e = cc
after_mark m R (w ∷ ws) e = rw e refl

-- ---- the same where a mark stands between the items

led : {X : Type 0} (m : Mark) (R : Reader X) (ws next : List Placed) → first_is (is_mark m) ws ≡ true → next ≡ behind ws → after m R ws ≡ R next
led m R ws next e b = after_mark m R ws e ∙ ap R (sym b)

pub sep_next : {X : Type 0} (m : Mark) (R : Reader X) (front row : List X) (ws next : List Placed) (x : X) (rest : List Placed) (whole : Read (List X)) → with_front front (many (is_mark m) (after m R) ws) ≡ whole → (first_is (is_mark m) ws ≡ true) × (next ≡ behind ws) → R next ≡ Ok (x, rest) → length rest < length ws → row ≡ front ++ x ∷ [] → with_front row (many (is_mark m) (after m R) rest) ≡ whole
sep_next m R front row ws next x rest whole inv e r lt same =
    ap (λ xs. with_front xs (many (is_mark m) (after m R) rest)) same ∙ loop_next (is_mark m) (after m R) front ws x rest whole inv e.0 (led m R ws next e.0 e.1 ∙ r) lt

pub sep_fails : {X : Type 0} (m : Mark) (R : Reader X) (front : List X) (ws next : List Placed) (stop : Stop) (whole : Read (List X)) → with_front front (many (is_mark m) (after m R) ws) ≡ whole → (first_is (is_mark m) ws ≡ true) × (next ≡ behind ws) → Fails stop (R next) → Fails stop whole
sep_fails m R front ws next stop whole inv e r =
    loop_fails (is_mark m) (after m R) front ws stop whole inv e.0 (subst (Fails stop) (sym (led m R ws next e.0 e.1)) r)

-- ---- the same where items stand one behind another

pub front_none : {X : Type 0} (read : Read (List X)) → with_front [] read ≡ read
front_none (Ok x) = refl
front_none (Err miss) = refl

pub row_next : {X : Type 0} (p : Word → Bool) (R : Reader X) (front row : List X) (ws : List Placed) (x : X) (rest : List Placed) (whole : Read (List X)) → with_front front (many p R ws) ≡ whole → first_is p ws ≡ true → R ws ≡ Ok (x, rest) → length rest < length ws → row ≡ front ++ x ∷ [] → with_front row (many p R rest) ≡ whole
row_next p R front row ws x rest whole inv e r lt same =
    ap (λ xs. with_front xs (many p R rest)) same ∙ loop_next p R front ws x rest whole inv e r lt

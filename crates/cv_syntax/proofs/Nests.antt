-- What nests, one level down.
use Rattle.std.proofs.Common.{◌≡◌, ℕ, suc, true, false, ◌==◌, List, [], ◌∷◌, length, Ok, refl, sym, ap, ◌∙◌, subst, arith}
use borrow.Author.Tests.{eqb-true}
use Rattle.cv_syntax.specs.Whole.{is_anything}
use Rattle.cv_lex.specs.declared.word.Mark.TheVariants as marks
use Rattle.cv_lex.specs.declared.word.Placed.{Placed}
use Rattle.cv_readers.specs.declared.stop.Stop.{Stop}
use Rattle.cv_readers.specs.declared.stop.Stop.TheVariants as stops
use Rattle.cv_readers.specs.Reading.{Read, Fails, first_is, behind, is_mark}
use Rattle.cv_readers.specs.Combining.{mapped, listed}
use Rattle.cv_syntax.specs.declared.tree.Literal.{Literal}
use Rattle.cv_syntax.specs.declared.tree.Literal.TheVariants as literals
use Rattle.cv_syntax.specs.declared.tree.Factor.{Factor}
use Rattle.cv_syntax.specs.declared.tree.Factor.TheVariants as factors
use Rattle.cv_syntax.specs.Nested.{literal_at, nest_at, factor_at, lift_at}

fails_mapped : {X Y : Type 0} (form : X → Y) (stop : Stop) (read : Read X) → Fails stop read → Fails stop (mapped form read)
fails_mapped form (stops.Unexpected n) read e = ap (mapped form) e
fails_mapped form (stops.TooDeep n) read e = ap (mapped form) e
fails_mapped form stops.OutOfMemory read e = tt

-- a list, where one of n levels is left inside
pub nest_list : (n k : ℕ) (ws : List Placed) → n ≡ suc k → first_is (is_mark marks.OpenBracket) ws ≡ true → nest_at n ws ≡ mapped literals.List (listed marks.CloseBracket (literal_at k) (behind ws))
unfolding literal_at
nest_list n k ws e f = ap (λ m. nest_at m ws) e ∙ rw f refl

pub nest_list_ok : (n k : ℕ) (ws next : List Placed) (xs : List Literal) (rest : List Placed) → n ≡ suc k → (first_is (is_mark marks.OpenBracket) ws ≡ true) × (next ≡ behind ws) → listed marks.CloseBracket (literal_at k) next ≡ Ok (xs, rest) → nest_at n ws ≡ Ok (literals.List xs, rest)
nest_list_ok n k ws next xs rest e f r =
    nest_list n k ws e f.0 ∙ ap (mapped literals.List) (subst (λ ts. listed marks.CloseBracket (literal_at k) ts ≡ Ok (xs, rest)) f.1 r)

pub nest_list_fails : (n k : ℕ) (ws next : List Placed) (stop : Stop) → n ≡ suc k → (first_is (is_mark marks.OpenBracket) ws ≡ true) × (next ≡ behind ws) → Fails stop (listed marks.CloseBracket (literal_at k) next) → Fails stop (nest_at n ws)
nest_list_fails n k ws next stop e f r =
    rw (nest_list n k ws e f.0) (fails_mapped literals.List stop _ (subst (λ ts. Fails stop (listed marks.CloseBracket (literal_at k) ts)) f.1 r))

-- `~` and a factor, where one of n levels is left inside
pub lift_not : (n k : ℕ) (ws : List Placed) → n ≡ suc k → first_is (is_mark marks.Tilde) ws ≡ true → lift_at n ws ≡ mapped factors.Not (factor_at k (behind ws))
unfolding factor_at
lift_not n k ws e f = ap (λ m. lift_at m ws) e ∙ rw f refl

pub lift_not_ok : (n k : ℕ) (ws next : List Placed) (x : Factor) (rest : List Placed) → n ≡ suc k → (first_is (is_mark marks.Tilde) ws ≡ true) × (next ≡ behind ws) → factor_at k next ≡ Ok (x, rest) → lift_at n ws ≡ Ok (factors.Not x, rest)
lift_not_ok n k ws next x rest e f r =
    lift_not n k ws e f.0 ∙ ap (mapped factors.Not) (subst (λ ts. factor_at k ts ≡ Ok (x, rest)) f.1 r)

pub lift_not_fails : (n k : ℕ) (ws next : List Placed) (stop : Stop) → n ≡ suc k → (first_is (is_mark marks.Tilde) ws ≡ true) × (next ≡ behind ws) → Fails stop (factor_at k next) → Fails stop (lift_at n ws)
lift_not_fails n k ws next stop e f r =
    rw (lift_not n k ws e f.0) (fails_mapped factors.Not stop _ (subst (λ ts. Fails stop (factor_at k ts)) f.1 r))

-- ---- a word is there

pub some_word : (ws : List Placed) → false ≡ (length ws == 0) → first_is is_anything ws ≡ true
some_word [] e = cc
some_word (w ∷ ws) e = refl

pub no_word : (ws : List Placed) → true ≡ (length ws == 0) → first_is is_anything ws ≡ false
no_word [] e = refl
no_word (w ∷ ws) e = absurd (omega (arith, eqb-true (length (w ∷ ws)) 0 (sym e)))

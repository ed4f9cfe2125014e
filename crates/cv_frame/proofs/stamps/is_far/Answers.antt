use Rattle.std.proofs.Common.{◌≡◌, false, true, ◌∷◌, [], IsTrue, sym, subst, ◌∙◌, arith, append_assoc}
use Rattle.std.proofs.lemmas.Fmt.{decimal_injective}
use Rattle.cv_frame.specs.laws.Far.{Lacks, far_parts, far_split, far_told, not_in, told}
use Rattle.cv_frame.proofs.stamps.is_far.Goals as goal

never : {P : Type 0} → IsTrue false → P
never e = absurd (let no : false ≡ true = e in cc)

pub returns-in_default : goal.returns-in_default
returns-in_default c = (never, λ k. absurd (not_in 44 _ _ (subst (Lacks 44) (k.is ∙ told k.f k.stamp) c.in_default.ensures)))

pub returns-in_default-split_last : goal.returns-in_default-split_last
returns-in_default-split_last c = (
  never,
  λ k. let split = far_split _ _ _ k c.in-Some.ensures.0 c.in-Some.ensures.1 in absurd (not_in 58 _ _ (subst (Lacks 58) split.0 c.in_default-split_last.ensures)),
)

pub returns-in_default-number_of : goal.returns-in_default-number_of
returns-in_default-number_of c = (
  never,
  λ k.
      let parts = far_parts _ _ _ _ _ k c.in-Some.ensures.0 c.in-Some.ensures.1 c.in-Some-split_last.ensures.0 c.in-Some-split_last.ensures.1 in
      absurd (c.in_default-number_of.ensures k.stamp k.fits parts.1),
)

pub returns-then-stamp-lt-COUNTS : goal.returns-then-stamp-lt-COUNTS
returns-then-stamp-lt-COUNTS c = (
  never,
  λ k.
      let parts = far_parts _ _ _ _ _ k c.in-Some.ensures.0 c.in-Some.ensures.1 c.in-Some-split_last.ensures.0 c.in-Some-split_last.ensures.1 in
      let same = decimal_injective c.in-Some-number_of.stamp k.stamp c.in-Some-number_of.ensures.0 k.fits (sym c.in-Some-number_of.ensures.1 ∙ parts.1) in
      absurd (omega (arith, same, k.far)),
)

pub returns : goal.returns
returns c =
    rw c.is_some.ensures
    (far_told _ _ _ _ _ _ c.in-Some-number_of.stamp c.in_ok-frame_read.field-0 c.in-Some.ensures.0 c.in-Some.ensures.1 c.in-Some-split_last.ensures.0 c.in-Some-split_last.ensures.1 c.in-Some-number_of.ensures.1 c.if-stamp-lt-COUNTS.false c.in-Some-number_of.ensures.0
    (c.deref.ensures.value ∙ c.in_ok-near.ensures ∙ append_assoc c.in-Some-split_last.before.now (58 ∷ 48 ∷ 44 ∷ []) c.in-Some.behind.now ∙ sym (append_assoc c.in-Some-split_last.before.now (58 ∷ 48 ∷ []) (44 ∷ c.in-Some.behind.now))) c.in_ok-frame_read.ensures.exact)

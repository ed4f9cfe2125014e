use Rattle.std.proofs.lemmas.Slice.Eq.{strip_prefix_is}
use Rattle.std.proofs.lemmas.Bool.Decides.{Decides-eqb}
use Rattle.cv_rules.proofs.Unders.{unlike, behind_group, by_dot, by_other}
use Rattle.cv_rules.proofs.meeting.is_under.Goals as goal

pub returns-in_default : goal.returns-in_default
returns-in_default c = unlike _ c.args.group.now c.args.field.now (rw c.in_default.is at (strip_prefix_is Decides-eqb c.args.key.now c.args.group.now _ c.strip_prefix.ensures.cases))

pub returns-then-first-eq46 : goal.returns-then-first-eq46
returns-then-first-eq46 c =
    let h = rw c.in-Some.is at (strip_prefix_is Decides-eqb c.args.key.now c.args.group.now _ c.strip_prefix.ensures.cases) in
    rw (h, c.in-Some-split_first.ensures.cases.0, behind_group, c.eq.ensures) (by_dot _ _ c.if-first-eq46.true)

pub returns-else-first-eq46 : goal.returns-else-first-eq46
returns-else-first-eq46 c =
    let h = rw c.in-Some.is at (strip_prefix_is Decides-eqb c.args.key.now c.args.group.now _ c.strip_prefix.ensures.cases) in
    rw (h, c.in-Some-split_first.ensures.cases.0, behind_group) (by_other _ _ c.if-first-eq46.false)

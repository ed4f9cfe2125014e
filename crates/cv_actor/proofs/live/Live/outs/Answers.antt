use Rattle.std.proofs.Common.{length, ap, arith}
use Rattle.cv_actor.proofs.Gifts.{few_at}
use Rattle.cv_actor.proofs.live.Live.outs.Goals as goal

pub returns-clause-few : goal.returns-clause-few
returns-clause-few c = let few = few_at _ _ _ c.self.invariant in omega (arith, few.1, ap length c.as_slice.ensures.value)

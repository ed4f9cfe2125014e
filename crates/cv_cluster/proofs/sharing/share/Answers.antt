use Rattle.std.proofs.Common.{arith}
use Rattle.cv_cluster.specs.Rounds.{Cleared}
use Rattle.cv_mesh.specs.Moving.{Stays}
use Rattle.cv_mesh.proofs.Listing.{each_as, each_then}
use Rattle.cv_cluster.proofs.Quotas.{cleared_none, stays_then}
use Rattle.cv_cluster.proofs.sharing.share.Goals as goal

pub returns-clause-stays : goal.returns-clause-stays
returns-clause-stays c =
    each_then Stays Stays Stays stays_then _ _ _ (each_as Cleared Stays (λ s u k. k.stays) _ _ c.clear_all.ensures)
    (each_then Stays Stays Stays stays_then _ _ _ c.give-left.ensures.stays c.give.ensures.stays)

pub returns-clause-sum : goal.returns-clause-sum
returns-clause-sum c =
    let none = cleared_none c.args.stations.now c.clear_all.new.stations c.clear_all.ensures in
    let first = c.give-left.ensures.sum in
    let second = c.give.ensures.sum in
    omega (arith, none, first, second)

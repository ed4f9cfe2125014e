use Rattle.std.proofs.Common.{ℕ, sym, subst, arith}
use Rattle.cv_mesh.specs.Moving.{Worked}
use Rattle.cv_cluster.specs.Rounds.{Advances}
use Rattle.cv_cluster.proofs.Advancing.{fired_below, round_advances, worked_meshed}
use Rattle.cv_cluster.proofs.Lists.{each_changed}
use Rattle.cv_cluster.proofs.rounds.work_round.Goals as goal

pub tally-outcome-requires : goal.tally-outcome-requires
tally-outcome-requires g c =
    let worked = each_changed Worked c.share.new.stations c.lend.new.stations c.lend.auto.stations c.lend.ensures in
    let few = fired_below c.share.new.stations c.lend.new.stations worked in
    let most = c.share.ensures.sum in
    omega (arith, few, most, c.ranges.most.fits)

pub look_all-requires : goal.look_all-requires
look_all-requires g c =
    worked_meshed c.args.stations.now c.share.new.stations c.lend.new.stations c.share.ensures.stays (each_changed Worked c.share.new.stations c.lend.new.stations c.lend.auto.stations c.lend.ensures) c.requires

pub returns-clause-within : goal.returns-clause-within
returns-clause-within g c =
    let worked = each_changed Worked c.share.new.stations c.lend.new.stations c.lend.auto.stations c.lend.ensures in
    let few = fired_below c.share.new.stations c.lend.new.stations worked in
    let most = c.share.ensures.sum in
    let count = c.tally-outcome.ensures.fired in
    omega (arith, few, most, count)

pub returns-clause-goes : goal.returns-clause-goes
returns-clause-goes g c =
    let worked = each_changed Worked c.share.new.stations c.lend.new.stations c.lend.auto.stations c.lend.ensures in
    subst (λ (n : ℕ). Advances c.tally-outcome.result.failed n c.args.stations.now c.end_turns.new.stations) (sym c.tally-outcome.ensures.fired) (round_advances c.tally-outcome.result.failed c.args.stations.now c.share.new.stations c.lend.new.stations c.look_all.new.stations c.end_turns.new.stations c.share.ensures.stays worked c.tally-outcome.ensures.fine c.look_all.ensures.looks c.look_all.ensures.looked c.end_turns.ensures)

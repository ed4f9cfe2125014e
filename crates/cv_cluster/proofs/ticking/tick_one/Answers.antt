use Rattle.std.proofs.Common.{arith}
use Rattle.cv_cluster.proofs.Advancing.{settles_tick}
use Rattle.cv_cluster.proofs.ticking.tick_one.Goals as goal

pub returns-clause-goes : goal.returns-clause-goes
returns-clause-goes c =
    let some = c.requires.room in
    let most = c.journal.ensures.room in
    settles_tick c.args.moment c.args.station.now c.step.new.self c.in-Ok.ensures.done (omega (arith, some, most))

use Rattle.std.proofs.Common.{◌+◌, sym, subst, arith}
use Rattle.cv_state.specs.Waking.{IsNextDue}
use Rattle.cv_station.specs.declared.station.Station.{Station}
use Rattle.cv_cluster.specs.Ticking.{DueBelow}
use Rattle.cv_cluster.proofs.Lists.{read_at}
use Rattle.cv_cluster.proofs.Moments.{due_more}
use Rattle.cv_cluster.proofs.ticking.due_in.Goals as goal

pub loop-place-preserved : goal.loop-place-preserved
loop-place-preserved c =
    let at = read_at c.args.stations.now c.loop-place.place c.index-stations-place.result (omega (arith, c.loop-place-test.true)) c.index-stations-place.is in
    subst (DueBelow c.args.stations.now (c.loop-place.place + 1)) (sym c.earlier-due.ensures) (due_more c.args.stations.now c.loop-place.place c.index-stations-place.result c.loop-place.due c.next_due.result at c.loop-place.invariant (subst (λ (s : Station). IsNextDue s.node.state c.next_due.result) (sym c.index-stations-place.is) c.next_due.ensures))

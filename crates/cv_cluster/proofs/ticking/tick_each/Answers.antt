use Rattle.std.proofs.Common.{false, refl, sym, subst, arith}
use Rattle.cv_station.specs.declared.station.Station.{Station}
use Rattle.cv_mesh.specs.Moving.{Settles}
use Rattle.cv_mesh.proofs.Listing.{each_self}
use Rattle.cv_mesh.proofs.Passing.{passed_all, passed_more, passed_none}
use Rattle.cv_cluster.specs.Ticking.{IsReady, StationTicks}
use Rattle.cv_cluster.proofs.Advancing.{settles_same, settles_set}
use Rattle.cv_cluster.proofs.Reserving.{still_ready}
use Rattle.cv_cluster.proofs.ticking.tick_each.Goals as goal

pub loop-place-init : goal.loop-place-init
loop-place-init c = record {
  settles = each_self (Settles false) (λ s. settles_same s s refl) c.args.stations.now;
  ticks = passed_none (StationTicks c.args.moment) c.args.stations.now;
}

pub tick_one-requires : goal.tick_one-requires
tick_one-requires c =
    let long = c.loop-place.invariant.settles.long in
    subst (IsReady c.args.moment) c.index-stations-place.is (still_ready (StationTicks c.args.moment) c.args.moment c.args.stations.now c.loop-place.stations c.loop-place.place c.index-stations-place.result c.requires c.loop-place.invariant.ticks (omega (arith, c.loop-place-test.true, long)) c.index-stations-place.is)

pub loop-place-preserved : goal.loop-place-preserved
loop-place-preserved c =
    let long = c.loop-place.invariant.settles.long in
    record {
      settles = settles_set c.args.stations.now c.loop-place.stations c.loop-place.place c.index-stations-place.result c.tick_one.new.station c.loop-place.invariant.settles (omega (arith, c.loop-place-test.true, long)) c.index-stations-place.is (subst (λ (s : Station). Settles false s c.tick_one.new.station) (sym c.index-stations-place.is) c.tick_one.ensures.goes);
      ticks = passed_more (StationTicks c.args.moment) c.args.stations.now c.loop-place.stations c.loop-place.place c.loop-place.invariant.ticks c.index-stations-place.result c.tick_one.new.station (omega (arith, c.loop-place-test.true, long)) (sym c.index-stations-place.is) c.tick_one.ensures.ticks;
    }

pub returns-clause-ticks : goal.returns-clause-ticks
returns-clause-ticks c =
    passed_all (StationTicks c.args.moment) c.args.stations.now c.loop-place.stations c.loop-place.place c.loop-place.invariant.ticks (let l = c.loop-place.invariant.ticks.long in omega (arith, c.loop-place-test.false, l))

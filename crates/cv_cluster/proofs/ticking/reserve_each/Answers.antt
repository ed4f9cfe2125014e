use Rattle.std.proofs.Common.{sym, subst, arith}
use Rattle.cv_station.specs.declared.station.Station.{Station}
use Rattle.cv_mesh.proofs.Listing.{each_self}
use Rattle.cv_mesh.proofs.Passing.{passed_all, passed_more, passed_none}
use Rattle.cv_cluster.specs.Ticking.{MakesRoom, MayMakeRoom}
use Rattle.cv_cluster.proofs.Reserving.{makes_self, makes_set}
use Rattle.cv_cluster.proofs.ticking.reserve_each.Goals as goal

pub loop-place-init : goal.loop-place-init
loop-place-init c = record {
  makes = each_self MayMakeRoom makes_self c.args.stations.now;
  room = passed_none MakesRoom c.args.stations.now;
}

pub returns-in_err-reserve_one-clause-kept : goal.returns-in_err-reserve_one-clause-kept
returns-in_err-reserve_one-clause-kept c =
    let long = c.loop-place.invariant.makes.long in
    makes_set c.args.stations.now c.loop-place.stations c.loop-place.place c.index-stations-place.result c.reserve_one.new.station c.loop-place.invariant.makes (omega (arith, c.loop-place-test.true, long)) c.index-stations-place.is (subst (λ (s : Station). MayMakeRoom s c.reserve_one.new.station) (sym c.index-stations-place.is) c.reserve_one.ensures.kept)

pub loop-place-preserved : goal.loop-place-preserved
loop-place-preserved c =
    let long = c.loop-place.invariant.makes.long in
    record {
      makes = makes_set c.args.stations.now c.loop-place.stations c.loop-place.place c.index-stations-place.result c.reserve_one.new.station c.loop-place.invariant.makes (omega (arith, c.loop-place-test.true, long)) c.index-stations-place.is (subst (λ (s : Station). MayMakeRoom s c.reserve_one.new.station) (sym c.index-stations-place.is) c.reserve_one.ensures.kept);
      room = passed_more MakesRoom c.args.stations.now c.loop-place.stations c.loop-place.place c.loop-place.invariant.room c.index-stations-place.result c.reserve_one.new.station (omega (arith, c.loop-place-test.true, long)) (sym c.index-stations-place.is) c.in_ok-reserve_one.ensures.room;
    }

pub returns-clause-room : goal.returns-clause-room
returns-clause-room c =
    passed_all MakesRoom c.args.stations.now c.loop-place.stations c.loop-place.place c.loop-place.invariant.room (let l = c.loop-place.invariant.room.long in omega (arith, c.loop-place-test.false, l))

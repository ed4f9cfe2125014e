use Rattle.cv_mesh.specs.Moving.{Looks}
use Rattle.cv_mesh.proofs.Listing.{each_then}
use Rattle.cv_cluster.specs.Ticking.{MakesRoom, StationTicks}
use Rattle.cv_cluster.proofs.Advancing.{calm_advances, none_advances, settles_meshed}
use Rattle.cv_cluster.proofs.Moments.{ticks_look}
use Rattle.cv_cluster.proofs.Reserving.{made_advances, made_meshed, made_near, made_ready, makes_ticks}
use Rattle.cv_cluster.proofs.ticking.tick_all.Goals as goal

pub tick_each-requires : goal.tick_each-requires
tick_each-requires c =
    made_ready c.args.moment c.args.stations.now c.reserve_each.new.stations c.in_ok-reserve_each.ensures.room c.requires.take

pub look_all-requires : goal.look_all-requires
look_all-requires c =
    settles_meshed c.reserve_each.new.stations c.tick_each.new.stations c.tick_each.ensures.goes (made_meshed c.args.stations.now c.reserve_each.new.stations c.reserve_each.ensures.kept c.requires.meshed)

pub returns-in_err-reserve_each-clause-goes : goal.returns-in_err-reserve_each-clause-goes
returns-in_err-reserve_each-clause-goes c =
    made_advances c.args.stations.now c.reserve_each.new.stations c.reserve_each.new.stations c.reserve_each.ensures.kept (none_advances c.reserve_each.new.stations)

pub returns-clause-goes : goal.returns-clause-goes
returns-clause-goes c =
    made_advances c.args.stations.now c.reserve_each.new.stations c.look_all.new.stations c.reserve_each.ensures.kept (calm_advances c.args.moment c.reserve_each.new.stations c.tick_each.new.stations c.look_all.new.stations (made_near c.args.moment c.args.stations.now c.reserve_each.new.stations c.reserve_each.ensures.kept c.requires.near) c.tick_each.ensures.ticks c.tick_each.ensures.goes c.look_all.ensures.looks c.look_all.ensures.looked)

pub returns-clause-ticks : goal.returns-clause-ticks
returns-clause-ticks c =
    each_then (StationTicks c.args.moment) Looks (StationTicks c.args.moment) (ticks_look c.args.moment) c.args.stations.now c.tick_each.new.stations c.look_all.new.stations (each_then MakesRoom (StationTicks c.args.moment) (StationTicks c.args.moment) (makes_ticks c.args.moment) c.args.stations.now c.reserve_each.new.stations c.tick_each.new.stations c.in_ok-reserve_each.ensures.room c.tick_each.ensures.ticks) c.look_all.ensures.looks

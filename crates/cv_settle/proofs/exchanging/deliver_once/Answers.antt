use Rattle.std.proofs.Common.{false, is_err}
use Rattle.cv_mesh.proofs.Composing.{looks_meshed}
use Rattle.cv_settle.proofs.Parts.{sweeps_looks, sweeps_then}
use Rattle.cv_settle.proofs.exchanging.deliver_once.Goals as goal

pub deliver_each-requires : goal.deliver_each-requires
deliver_each-requires c =
    looks_meshed c.args.stations.now c.look_all.new.stations c.look_all.ensures.looks c.requires

pub returns : goal.returns
returns c =
    sweeps_then (is_err c.deliver_each.result) c.args.stations.now c.look_all.new.stations c.deliver_each.new.stations (sweeps_looks false c.args.stations.now c.look_all.new.stations c.requires c.look_all.ensures.looks) c.deliver_each.ensures

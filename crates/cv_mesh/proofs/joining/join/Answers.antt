use Rattle.std.proofs.Common.{sym, ◌∙◌, arith}
use Rattle.cv_mesh.proofs.Connecting.{connected_next, joins}
use Rattle.cv_mesh.proofs.joining.join.Goals as goal

pub loop-place-preserved : goal.loop-place-preserved
loop-place-preserved c = record {
  connected = connected_next c.args.items.now c.args.stations.now.items c.loop-place.stations.items c.loop-place.place c.loop-place.station c.connect.new.one c.connect.new.other c.index_mut.result.now c.loop-place.invariant.connected (omega (arith, c.loop-place-test.true, c.len-place-end.ensures)) (sym c.index_mut.ensures.value) c.in_ok-connect.ensures;
  node = c.in_ok-connect.ensures.other_node ∙ c.loop-place.invariant.node;
}

pub returns : goal.returns
returns c given new =
    joins c.args.items.now given c.args.node c.args.stations.now.items c.loop-place.stations.items c.loop-place.station c.connect_itself.new.station c.push.new.self.items c.loop-place.place new c.loop-place.invariant.connected (omega (arith, c.loop-place-test.false, c.len-place-end.ensures, c.loop-place.auto.place-end)) c.loop-place.invariant.node c.in_ok-connect_itself.ensures c.in_ok-push.ensures.items

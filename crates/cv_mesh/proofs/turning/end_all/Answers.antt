use Rattle.std.proofs.Common.{sym, arith}
use Rattle.cv_mesh.specs.Moving.{PeerTurns}
use Rattle.cv_mesh.proofs.Passing.{passed_all, passed_more}
use Rattle.cv_mesh.proofs.turning.end_all.Goals as goal

pub loop-place-preserved : goal.loop-place-preserved
loop-place-preserved c =
    passed_more PeerTurns c.args.peers.now c.loop-place.peers c.loop-place.place c.loop-place.invariant c.index-peers-place.result c.end_one.new.peer (let l = c.loop-place.invariant.long in omega (arith, c.loop-place-test.true, l)) (sym c.index-peers-place.is) c.end_one.ensures

pub returns : goal.returns
returns c =
    passed_all PeerTurns c.args.peers.now c.loop-place.peers c.loop-place.place c.loop-place.invariant (let l = c.loop-place.invariant.long in omega (arith, c.loop-place-test.false, l))

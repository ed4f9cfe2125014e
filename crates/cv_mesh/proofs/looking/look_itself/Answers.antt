use Rattle.std.proofs.Common.{refl}
use Rattle.cv_mesh.proofs.Looked.{found}
use Rattle.cv_mesh.proofs.looking.look_itself.Goals as goal

pub returns : goal.returns
returns c = record {
  node = refl;
  old = c.index_mut.result.now;
  now = c.look_own.new.peer;
  at = found c.args.station.now.peers.items c.args.place c.index_mut.result.now c.requires.tx_end c.requires.tx_at c.index_mut.ensures.value;
  sets = refl;
  looks = c.look_own.ensures.looks;
  looked = c.look_own.ensures.looked;
}

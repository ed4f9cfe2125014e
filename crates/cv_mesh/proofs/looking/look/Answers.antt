use Rattle.std.proofs.Common.{refl}
use Rattle.cv_mesh.proofs.Looked.{found}
use Rattle.cv_mesh.proofs.looking.look.Goals as goal

pub returns : goal.returns
returns c =
    let looks = c.look_ends.ensures.looks in record {
      sender = refl;
      receiver = refl;
      tx_old = c.index_mut.result.now;
      tx_new = c.look_ends.new.to;
      rx_old = c.index_mut-2.result.now;
      rx_new = c.look_ends.new.from;
      tx_at = found c.args.sender.now.peers.items c.args.to c.index_mut.result.now c.requires.tx_end c.requires.tx_at c.index_mut.ensures.value;
      rx_at = found c.args.receiver.now.peers.items c.args.from c.index_mut-2.result.now c.requires.rx_end c.requires.rx_at c.index_mut-2.ensures.value;
      sends = refl;
      receives = refl;
      tx_looks = looks.tx_looks;
      rx_looks = looks.rx_looks;
      tx_other = looks.tx_other;
      rx_other = looks.rx_other;
      looked = looks.looked;
    }

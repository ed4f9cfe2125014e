use Rattle.std.proofs.Common.{arith}
use Rattle.std.proofs.lemmas.Option.{slice_get_within}
use Rattle.cv_mesh.specs.Moving.{Looks}
use Rattle.cv_mesh.proofs.Composing.{looks_meshed}
use Rattle.cv_mesh.proofs.Going.{looks_self_station}
use Rattle.cv_mesh.proofs.Listing.{each_self, each_then}
use Rattle.cv_mesh.proofs.Looked.{all_looked_next, looks_then}
use Rattle.cv_mesh.proofs.looking.look_all.Goals as goal

pub loop-from-init : goal.loop-from-init
loop-from-init c = record {
  meshed = c.requires;
  looks = each_self Looks looks_self_station c.args.stations.now;
  looked = λ i j low. absurd (omega (arith, low));
}

pub loop-from-preserved : goal.loop-from-preserved
loop-from-preserved c =
    let was = c.loop-from.invariant in
    let does = c.look_from.ensures in
    record {
      meshed = looks_meshed c.loop-from.stations c.look_from.new.stations does.looks was.meshed;
      looks = each_then Looks Looks Looks looks_then c.args.stations.now c.loop-from.stations c.look_from.new.stations was.looks does.looks;
      looked = all_looked_next c.loop-from.stations c.look_from.new.stations c.loop-from.from was.looked does.looked does.kept;
    }

pub returns : goal.returns
returns c =
    let was = c.loop-from.invariant in
    record {
      looks = was.looks;
      looked = λ i j s t p q at_s at_t at_p at_q. was.looked i j (let h = slice_get_within c.loop-from.stations i s at_s in let long = was.looks.long in omega (arith, h, long, c.loop-from-test.false)) s t p q at_s at_t at_p at_q;
    }

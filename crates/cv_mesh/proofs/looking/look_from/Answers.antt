use Rattle.std.proofs.Common.{arith}
use Rattle.std.proofs.lemmas.Option.{slice_get_within}
use Rattle.cv_mesh.specs.Moving.{Looks}
use Rattle.cv_mesh.proofs.Composing.{looks_meshed}
use Rattle.cv_mesh.proofs.Going.{looks_self_station}
use Rattle.cv_mesh.proofs.Listing.{each_self, each_then}
use Rattle.cv_mesh.proofs.Looked.{looks_then, looked_next}
use Rattle.cv_mesh.proofs.looking.look_from.Goals as goal

pub loop-to-init : goal.loop-to-init
loop-to-init c = record {
  meshed = c.requires.meshed;
  looks = each_self Looks looks_self_station c.args.stations.now;
  looked = λ j low. absurd (omega (arith, low));
  kept = λ i j looked. looked;
}

pub loop-to-preserved : goal.loop-to-preserved
loop-to-preserved c =
    let was = c.loop-to.invariant in
    let does = c.look_at.ensures in
    record {
      meshed = looks_meshed c.loop-to.stations c.look_at.new.stations does.looks was.meshed;
      looks = each_then Looks Looks Looks looks_then c.args.stations.now c.loop-to.stations c.look_at.new.stations was.looks does.looks;
      looked = looked_next c.loop-to.stations c.look_at.new.stations c.args.from c.loop-to.to was.looked does.looked does.kept;
      kept = λ i j looked. does.kept i j (was.kept i j looked);
    }

pub returns : goal.returns
returns c =
    let was = c.loop-to.invariant in
    record {
      looks = was.looks;
      looked = λ j s t p q at_s at_t at_p at_q. was.looked j (let h = slice_get_within c.loop-to.stations j t at_t in let long = was.looks.long in omega (arith, h, long, c.loop-to-test.false)) s t p q at_s at_t at_p at_q;
      kept = was.kept;
    }

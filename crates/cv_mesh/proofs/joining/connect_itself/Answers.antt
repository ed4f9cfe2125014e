use Rattle.std.proofs.Common.{ap, refl, ◌∙◌, ℕ}
use Rattle.cv_rules.specs.declared.attrs.NodeSpec.{NodeSpec}
use Rattle.cv_link.specs.Items.{link_of}
use Rattle.cv_link.specs.Plan.{new_plan}
use Rattle.cv_mesh.proofs.joining.connect_itself.Goals as goal

pub returns : goal.returns
returns c =
    let here = ap (λ (s : NodeSpec). s.no) c.journal.ensures.spec in record {
      own = record { no = c.journal.result.now.spec.no; tx = c.in_ok-ring.ring.tx; rx = c.in_ok-ring.ring.rx };
      node = refl;
      peers = c.in_ok-push.ensures.items;
      number = here;
      unused = record {
        pushed = c.in_ok-ring.ensures.empty.0;
        plan = c.in_ok-ring.ensures.plan ∙ ap new_plan (c.in_ok-link.ensures ∙ ap (λ (n : ℕ). link_of c.journal.result.now.spec.no n c.args.items.now) here);
      };
      joined = c.in_ok-ring.ensures.ends;
    }

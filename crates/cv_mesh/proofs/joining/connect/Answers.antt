use Rattle.std.proofs.Common.{ap, refl, ◌∙◌, ℕ}
use Rattle.cv_rules.specs.declared.attrs.NodeSpec.{NodeSpec}
use Rattle.cv_link.specs.Items.{link_of}
use Rattle.cv_link.specs.Plan.{new_plan}
use Rattle.cv_mesh.proofs.joining.connect.Goals as goal

pub returns : goal.returns
returns c =
    let here = ap (λ (s : NodeSpec). s.no) c.journal.ensures.spec in
    let there = ap (λ (s : NodeSpec). s.no) c.journal-2.ensures.spec in
    let items = c.args.items.now in record {
      peer = record { no = c.journal-2.result.now.spec.no; tx = c.in_ok-forth.forth.tx; rx = c.in_ok-back.back.rx };
      other = record { no = c.journal.result.now.spec.no; tx = c.in_ok-back.back.tx; rx = c.in_ok-forth.forth.rx };
      node = refl;
      other_node = refl;
      peers = c.in_ok-push.ensures.items;
      other_peers = c.in_ok-push-2.ensures.items;
      connected = record {
        to = there;
        from = here;
        here = record { pushed = c.in_ok-forth.ensures.empty.0; plan = c.in_ok-back.ensures.plan ∙ ap new_plan (c.in_ok-link-2.ensures ∙ ap (λ (n : ℕ). link_of c.journal-2.result.now.spec.no n items) here) };
        there = record { pushed = c.in_ok-back.ensures.empty.0; plan = c.in_ok-forth.ensures.plan ∙ ap new_plan (c.in_ok-link.ensures ∙ ap (λ (n : ℕ). link_of c.journal.result.now.spec.no n items) there) };
        forth = c.in_ok-forth.ensures.ends;
        back = c.in_ok-back.ensures.ends;
      };
    }

use Rattle.std.proofs.Common.{◌∷◌, [], ◌++◌, List, ℕ, sym, ap, ◌∙◌, subst, arith}
use Rattle.cv_protocol.specs.declared.event.Entry.{Entry}
use Rattle.cv_node.specs.Journalled.{IsJournal, base_of}
use Rattle.cv_node.proofs.Replays.{replays_step}
use Rattle.cv_node.proofs.node.Node.step.Goals as goal

pub invariant_of-self-in-Ok : goal.invariant_of-self-in-Ok
invariant_of-self-in-Ok c =
    let i = c.self.inside in
    let was = c.self.invariant.0 in
    let base = base_of i.journal.spec i.noted.items in
    let kept = replays_step base i.state c.apply.new.state i.journal.entries.items c.args.event c.in-Ok.sent was.leaves c.in-Ok.ensures.done in
    let grown = c.append.ensures.items
    ∙ ap (λ (es : List Entry). es ++ record { stamp = c.stamp.result; event = c.args.event } ∷ []) c.make_room.ensures.items
    ∙ ap (λ (t : ℕ). i.journal.entries.items ++ record { stamp = t; event = c.args.event } ∷ []) c.stamp.ensures in
    let journal = subst (λ (es : List Entry). IsJournal base i.journal.spec c.apply.new.state es) (sym grown) (record { leaves = kept; own = was.own }) in
    (journal, record { room = omega arith; within = omega arith })

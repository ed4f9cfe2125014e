use Rattle.std.proofs.Common.{◌+◌, ◌&&◌, ℕ, nat_lt, ap, sym, ◌∙◌}
use Rattle.cv_protocol.specs.NodeRow.{spent_unless}
use Rattle.cv_protocol.specs.Poll.{limit}
use Rattle.cv_state.specs.Ways.{passing_on, way_of}
use Rattle.cv_state.proofs.Ways.{none_passes, one_passes, pass_decided, pass_idle}
use Rattle.cv_state.proofs.state.State.pass_cause.Goals as goal

pub returns-in_default-received_after : goal.returns-in_default-received_after
returns-in_default-received_after c =
    let s = c.args.self.now in
    sym (pass_idle s c.args.conn c.in-Some.way c.in-Some.ensures (none_passes (passing_on (way_of s c.args.conn)) c.in_default-received_after.ensures))

pub returns : goal.returns
returns c =
    let s = c.args.self.now in
    let p = one_passes (passing_on (way_of s c.args.conn)) c.in-Some-received_after.received c.in-Some-received_after.ensures in
    c.spent_unless.ensures
    ∙ ap (λ (n : ℕ). spent_unless (nat_lt n limit && nat_lt (s.stamp + 1) limit)) p.2
    ∙ sym (pass_decided s c.args.conn c.in-Some.way p.0 c.in-Some.ensures p.1)

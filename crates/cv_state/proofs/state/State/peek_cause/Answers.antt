use Rattle.std.proofs.Common.{◌≡◌, ◌+◌, nat_lt, sym, ◌∙◌, subst}
use Rattle.cv_protocol.specs.declared.event.Event.TheVariants as event
use Rattle.cv_protocol.specs.NodeState.{NodeState}
use Rattle.cv_protocol.specs.NodeRow.{cause_of, spent_unless}
use Rattle.cv_protocol.specs.Poll.{limit}
use Rattle.cv_state.proofs.Local.{peek_decided, reads_as_told}
use Rattle.cv_state.proofs.state.State.peek_cause.Goals as goal

pub returns : goal.returns
returns c =
    let i = c.self.inside in
    let s : NodeState = record { spec = i.spec; stamp = i.stamp; now = i.moment; known = i.known; live = i.live.map; moves = i.moves; hints = i.hints.map } in
    let a = c.args.actor in
    let port = c.args.port in
    let count = c.in-Some-read_of._count in
    let polled = reads_as_told c.in-Some.live.now i.moment port count c.outlook.result c.outlook.ensures c.in-Some-read_of.ensures in
    let decided = peek_decided s a port count c.in-Some.live.now (sym c.in-Some.ensures) polled in
    c.spent_unless.ensures ∙ sym (subst (λ (s : NodeState). cause_of s (event.Peek a port) ≡ spent_unless (nat_lt (s.stamp + 1) limit)) c.self.view_is decided)

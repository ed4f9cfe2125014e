use Rattle.std.proofs.Common.{◌≡◌, slice_get, ap, sym, ◌∙◌, subst}
use Rattle.std.specs.FinMap as map
use Rattle.cv_protocol.specs.NodeState.{NodeState}
use Rattle.cv_state.specs.Waking.{wake_at}
use Rattle.cv_state.proofs.Entries.{entry_found, has_value}
use Rattle.cv_state.proofs.state.State.wake_at.Goals as goal

pub unreachable-requires : goal.unreachable-requires
unreachable-requires c = has_value c.self.inside.live.map c.args.place c.in-Some.actor c.in-Some.ensures c.in_default-get.ensures

pub returns : goal.returns
returns c =
    let i = c.self.inside in
    let entry = entry_found i.live.map c.args.place c.in-Some.actor c.in-Some-get.live.now c.in-Some.ensures c.in-Some-get.ensures in
    subst (λ (s : NodeState). c.wake_of.result ≡ wake_at s.now c.args.found (slice_get (map.entries s.live) c.args.place)) c.self.view_is (c.wake_of.ensures ∙ sym (ap (wake_at i.moment c.args.found) entry))

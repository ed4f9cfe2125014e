use Rattle.std.proofs.Common.{◌≡◌, ◌≤◌, ◌+◌, Some, length, sym, subst, ap, refl}
use Rattle.std.specs.Prelude.{IsSomeAnd}
use Rattle.std.specs.FinMap as map
use Rattle.cv_protocol.specs.declared.event.Event.TheVariants as event
use Rattle.cv_protocol.specs.declared.event.Sent.TheVariants as sent
use Rattle.cv_protocol.specs.declared.refusal.StepRefusal.TheVariants as refusal
use Rattle.cv_protocol.specs.Actors.{LiveState}
use Rattle.cv_protocol.specs.NodeState.{NodeState}
use Rattle.cv_protocol.specs.NodeRow.{cause_of, row}
use Rattle.cv_protocol.specs.Poll.{Held, poll}
use Rattle.cv_protocol.specs.Rows.{inlet_at, uses}
use Rattle.cv_actor.specs.Polled.{peeked}
use Rattle.cv_actor.proofs.Sights.{poll_holds}
use Rattle.cv_state.specs.Steps.{LeadsTo}
use Rattle.cv_state.proofs.Local.{is_less, leads, not_less, one_found, peek_spent, peeks, reads_as_told}
use Rattle.cv_state.proofs.state.State.peek.Goals as goal

pub returns-then-self-ge-LIMIT-clause-cause : goal.returns-then-self-ge-LIMIT-clause-cause
returns-then-self-ge-LIMIT-clause-cause c =
    let i = c.self.inside in
    let s : NodeState = record { spec = i.spec; stamp = i.stamp; now = i.moment; known = i.known; live = i.live.map; moves = i.moves; hints = i.hints.map } in
    let polled = reads_as_told c.in-Some.live.now i.moment c.args.port c.in-Some-read_of.count c.outlook.result c.outlook.ensures c.in-Some-read_of.ensures in
    subst (λ (s : NodeState). cause_of s (event.Peek c.args.actor c.args.port) ≡ Some refusal.StampSpent) c.self.view_is (peek_spent s c.args.actor c.args.port c.in-Some-read_of.count c.in-Some.live.now (sym c.in-Some.ensures) polled (not_less _ _ c.if-self-ge-LIMIT.true))

pub peek-requires : goal.peek-requires
peek-requires c =
    let one : c.in-Some.live.now ≡ c.in-Some-get_mut.live.now = one_found _ _ _ c.in-Some.ensures c.in-Some-get_mut.ensures.value in
    let polled = reads_as_told c.in-Some.live.now c.self.inside.moment c.args.port c.in-Some-read_of.count c.outlook.result c.outlook.ensures c.in-Some-read_of.ensures in
    subst (λ (l : LiveState). IsSomeAnd (inlet_at l c.args.port) (λ i. c.in-Some-read_of.count ≤ length i.port.held)) one (poll_holds c.in-Some.live.now c.self.inside.moment c.args.port c.in-Some-read_of.count polled)

pub returns-clause-done : goal.returns-clause-done
returns-clause-done c =
    let i = c.self.inside in
    let s : NodeState = record { spec = i.spec; stamp = i.stamp; now = i.moment; known = i.known; live = i.live.map; moves = i.moves; hints = i.hints.map } in
    let l = c.in-Some-get_mut.live.now in
    let count = c.in-Some-read_of.count in
    let one : c.in-Some.live.now ≡ l = one_found _ _ _ c.in-Some.ensures c.in-Some-get_mut.ensures.value in
    let polled = subst (λ (l : LiveState). poll l i.moment ≡ Held c.args.port count) one (reads_as_told c.in-Some.live.now i.moment c.args.port count c.outlook.result c.outlook.ensures c.in-Some-read_of.ensures) in
    let does = peeks s c.args.actor c.args.port count l (sym c.in-Some-get_mut.ensures.value) polled in
    let next : NodeState = record s { live = map.insert s.live c.args.actor c.peek.new.self; stamp = s.stamp + 1 } in
    let is = ap (λ (v : LiveState). record s { live = map.insert s.live c.args.actor v; stamp = s.stamp + 1 }) c.peek.ensures in
    subst (λ (s : NodeState). LeadsTo (row s (event.Peek c.args.actor c.args.port)) next sent.Nothing) c.self.view_is (leads s (event.Peek c.args.actor c.args.port) (uses s c.args.actor (peeked l c.args.port count)) next does (is_less _ _ c.if-self-ge-LIMIT.false) is refl)

use Rattle.std.proofs.Common.{◌≡◌, nat_lt, ap, sym, ◌∙◌, subst, inr}
use Rattle.std.specs.Option.{option_map}
use Rattle.std.specs.FinMap as map
use Rattle.cv_token.specs.declared.identifiers.ActorId.{ActorId}
use Rattle.cv_token.specs.declared.identifiers.ConnId.{ConnId}
use Rattle.cv_queue.specs.Ports.{InView, after_offer, received}
use Rattle.cv_protocol.specs.Poll.{limit}
use Rattle.cv_endpoint.specs.Ends.{answer_of}
use Rattle.cv_protocol.specs.declared.state.Inlet.{Inlet}
use Rattle.cv_protocol.specs.declared.refusal.StepRefusal.TheVariants as refusal
use Rattle.cv_protocol.specs.Actors.{LiveState}
use Rattle.cv_protocol.specs.NodeState.{NodeState}
use Rattle.cv_protocol.specs.NodeRow.{spent_unless}
use Rattle.cv_protocol.specs.Rows.{inlet_at}
use Rattle.cv_protocol.specs.Deliveries.{token_comes}
use Rattle.cv_actor.specs.Lends.{with_inport}
use Rattle.cv_state.specs.Steps.{Does, Refuses}
use Rattle.cv_state.proofs.Comings.{offer_spent, offered}
use Rattle.cv_state.proofs.Local.{one_found}
use Rattle.cv_state.proofs.Seats.{fed_is, seated_again, seated_at, unfed}
use Rattle.cv_state.proofs.state.State.take_token.Goals as goal

pub unreachable-requires : goal.unreachable-requires
unreachable-requires c =
    let l = c.in-Some.live.now in
    let inp = c.in-Some-seat.seat in
    unfed c.args.conn l inp (λ (i : Inlet). (i.conn, i.producer)) (seated_at c.args.conn l inp c.in-Some-seat.ensures) c.in_default-feed.ensures

pub returns-then-not-fits_offer-clause-cause : goal.returns-then-not-fits_offer-clause-cause
returns-then-not-fits_offer-clause-cause c =
    let i = c.self.inside in
    let s : NodeState = record { spec = i.spec; stamp = i.stamp; now = i.moment; known = i.known; live = i.live.map; moves = i.moves; hints = i.hints.map } in
    let l = c.in-Some.live.now in
    let inp = c.in-Some-seat.seat in
    let port = c.in-Some-inp.port.now in
    let t = c.args.token.now in
    let h = seated_at c.args.conn l inp c.in-Some-seat.ensures in
    let is = fed_is c.args.conn l inp (λ (i : Inlet). i.port) h port c.in-Some-inp.ensures in
    let spent = offer_spent s c.args.stamp c.args.sender c.args.conn c.args.actor c.args.n t l inp h port c.in-Some.ensures is (c.if-not-fits_offer.ensures.value t) in
    subst (λ (s : NodeState). Refuses (spent_unless (token_comes s c.args.stamp c.args.sender c.args.conn c.args.actor c.args.n t (map.get s.live c.args.actor)).fits) refusal.StampSpent) c.self.view_is (inr spent)

pub returns-clause-done : goal.returns-clause-done
returns-clause-done c =
    let i = c.self.inside in
    let s : NodeState = record { spec = i.spec; stamp = i.stamp; now = i.moment; known = i.known; live = i.live.map; moves = i.moves; hints = i.hints.map } in
    let a = c.args.actor in
    let n = c.args.n in
    let t = c.args.token.now in
    let l = c.in-Some-get_mut.live.now in
    let inp = c.in-Some-seat.seat in
    let port = c.in-Some-inp_mut.port.now in
    let one : c.in-Some.live.now ≡ l = one_found _ _ _ c.in-Some.ensures c.in-Some-get_mut.ensures.value in
    let h = seated_again c.args.conn c.in-Some.live.now l inp one c.in-Some-seat.ensures in
    let is = fed_is c.args.conn l inp (λ (i : Inlet). i.port) h port c.in-Some-inp_mut.ensures.value in
    let ends : ConnId × ActorId = (c.in-Some-feed.fed, c.in-Some-feed.producer) in
    let connections = fed_is c.args.conn l inp (λ (i : Inlet). (i.conn, i.producer)) h ends (c.in-Some-feed.ensures ∙ ap (λ (x : LiveState). option_map (λ (i : Inlet). (i.conn, i.producer)) (inlet_at x inp)) one) in
    let first = fed_is c.args.conn l inp (λ (i : Inlet). i.port) h c.in-Some-inp.port.now (c.in-Some-inp.ensures ∙ ap (λ (x : LiveState). option_map (λ (i : Inlet). i.port) (inlet_at x inp)) one) in
    let token = c.in_ok-token.ensures in
    let after = c.on_token-answer.ensures.after ∙ ap (after_offer port n) token in
    let answers = c.on_token-answer.ensures.answer ∙ ap (answer_of port n) token in
    let fits = c.if-not-fits_offer.ensures.value t ∙ ap (λ (q : InView). nat_lt (received (after_offer q n t)) limit) (first ∙ sym is) in
    let next : NodeState = record s { live = map.insert s.live a (with_inport l inp c.on_token-answer.new.inp) } in
    subst (λ (s : NodeState). Does (token_comes s c.args.stamp c.args.sender c.args.conn a n t (map.get s.live a)) next c.one.result) c.self.view_is (offered s c.args.stamp c.args.sender c.args.conn a n t l inp h port c.on_token-answer.new.inp ends c.on_token-answer.result c.answer_body.result c.one.result c.in-Some-get_mut.ensures.value is connections after answers c.answer_body.ensures c.one.ensures fits)

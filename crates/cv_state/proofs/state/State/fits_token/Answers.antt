use Rattle.std.proofs.Common.{◌≡◌, sym, ◌∙◌, subst}
use Rattle.std.specs.FinMap as map
use Rattle.cv_protocol.specs.declared.state.Inlet.{Inlet}
use Rattle.cv_protocol.specs.NodeState.{NodeState}
use Rattle.cv_protocol.specs.Deliveries.{token_comes}
use Rattle.cv_state.proofs.Comings.{offer_fits}
use Rattle.cv_state.proofs.Seats.{fed_is, seated_at, unfed}
use Rattle.cv_state.proofs.state.State.fits_token.Goals as goal

pub unreachable-requires : goal.unreachable-requires
unreachable-requires c =
    let l = c.in-Some.live.now in
    let inp = c.in-Some-seat.seat in
    unfed c.args.conn l inp (λ (i : Inlet). i.port) (seated_at c.args.conn l inp c.in-Some-seat.ensures) c.in_default-inp.ensures

pub returns : goal.returns
returns c stamp sender t =
    let i = c.self.inside in
    let s : NodeState = record { spec = i.spec; stamp = i.stamp; now = i.moment; known = i.known; live = i.live.map; moves = i.moves; hints = i.hints.map } in
    let l = c.in-Some.live.now in
    let inp = c.in-Some-seat.seat in
    let port = c.in-Some-inp.port.now in
    let h = seated_at c.args.conn l inp c.in-Some-seat.ensures in
    let is = fed_is c.args.conn l inp (λ (i : Inlet). i.port) h port c.in-Some-inp.ensures in
    let fits = c.fits_offer.ensures.value t ∙ sym (offer_fits s stamp sender c.args.conn c.args.actor c.args.n t l inp h port c.in-Some.ensures is) in
    subst (λ (s : NodeState). c.fits_offer.result ≡ (token_comes s stamp sender c.args.conn c.args.actor c.args.n t (map.get s.live c.args.actor)).fits) c.self.view_is fits

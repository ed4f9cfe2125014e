use Rattle.std.proofs.Common.{◌≡◌, ℕ, ◌<◌, ◌^◌, Option, Some, ap, sym, ◌∙◌, subst}
use Rattle.std.specs.Prelude.{IsSomeAnd}
use Rattle.std.specs.Option.{option_map}
use Rattle.cv_queue.specs.Ports.{InView, after_offer, received}
use Rattle.cv_protocol.specs.NodeState.{NodeState}
use Rattle.cv_state.specs.Ways.{Way, given_at, way_in, way_of}
use Rattle.cv_state.proofs.Ways.{given_is, leads_on, not_unfed, port_found, seated_there}
use Rattle.cv_state.proofs.state.State.give.Goals as goal

pub unreachable-requires-in_default-inp_mut : goal.unreachable-requires-in_default-inp_mut
unreachable-requires-in_default-inp_mut c =
    let i = c.self.inside in
    let s : NodeState = record { spec = i.spec; stamp = i.stamp; now = i.moment; known = i.known; live = i.live.map; moves = i.moves; hints = i.hints.map } in
    let h = leads_on s c.args.conn c.args.way (subst (λ (s : NodeState). Some c.args.way ≡ option_map way_in (way_of s c.args.conn)) (sym c.self.view_is) c.requires.told) in
    let l = c.in-Some.live.now in
    not_unfed h.way c.args.way l (seated_there s c.args.conn c.args.way h l c.in-Some.ensures.value) c.in_default-inp_mut.ensures.value

pub offer-taken-requires : goal.offer-taken-requires
offer-taken-requires c =
    let i = c.self.inside in
    let s : NodeState = record { spec = i.spec; stamp = i.stamp; now = i.moment; known = i.known; live = i.live.map; moves = i.moves; hints = i.hints.map } in
    let h = leads_on s c.args.conn c.args.way (subst (λ (s : NodeState). Some c.args.way ≡ option_map way_in (way_of s c.args.conn)) (sym c.self.view_is) c.requires.told) in
    let l = c.in-Some.live.now in
    let port = port_found h.way c.args.way l c.in-Some-inp_mut.inp.now (seated_there s c.args.conn c.args.way h l c.in-Some.ensures.value) c.in-Some-inp_mut.ensures.value in
    let Fits : Option Way → Type 0 = λ (w : Option Way). IsSomeAnd w (λ w. received w.seat.inlet.port < 2 ^ 62) in
    let fits : received h.way.seat.inlet.port < 2 ^ 62 = subst Fits h.there (subst (λ (s : NodeState). Fits (way_of s c.args.conn)) (sym c.self.view_is) c.requires.fits) in
    subst (λ (p : InView). received p < 2 ^ 62) (sym port) fits

pub returns : goal.returns
returns c =
    let i = c.self.inside in
    let s : NodeState = record { spec = i.spec; stamp = i.stamp; now = i.moment; known = i.known; live = i.live.map; moves = i.moves; hints = i.hints.map } in
    let h = leads_on s c.args.conn c.args.way (subst (λ (s : NodeState). Some c.args.way ≡ option_map way_in (way_of s c.args.conn)) (sym c.self.view_is) c.requires.told) in
    let l = c.in-Some.live.now in
    let p = c.in-Some-inp_mut.inp.now in
    let seated = seated_there s c.args.conn c.args.way h l c.in-Some.ensures.value in
    let port = port_found h.way c.args.way l p seated c.in-Some-inp_mut.ensures.value in
    let after = c.offer-taken.ensures.after ∙ ap (λ (n : ℕ). after_offer p n c.args.token) c.received-next.ensures.value in
    given_is s c.args.conn c.args.way h l p c.offer-taken.new.self c.args.token seated port after ∙ ap (λ (s : NodeState). given_at s (way_of s c.args.conn) c.args.token) c.self.view_is

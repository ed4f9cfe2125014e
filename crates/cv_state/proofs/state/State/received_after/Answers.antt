use Rattle.std.proofs.Common.{◌≡◌, Some, ap, sym, ◌∙◌, subst}
use Rattle.std.specs.Option.{option_map}
use Rattle.cv_protocol.specs.NodeState.{NodeState}
use Rattle.cv_state.specs.Ways.{passing_on, received_in, way_in, way_of}
use Rattle.cv_state.proofs.Outlets.{lent, not_portless}
use Rattle.cv_state.proofs.Ways.{leads_on, not_unfed, outlet_told, passing_is, port_found, seated_there}
use Rattle.cv_state.proofs.state.State.received_after.Goals as goal

pub returns-in_err-out : goal.returns-in_err-out
returns-in_err-out c =
    let i = c.self.inside in
    let s : NodeState = record { spec = i.spec; stamp = i.stamp; now = i.moment; known = i.known; live = i.live.map; moves = i.moves; hints = i.hints.map } in
    let h = leads_on s c.args.conn c.args.way (subst (λ (s : NodeState). Some c.args.way ≡ option_map way_in (way_of s c.args.conn)) (sym c.self.view_is) c.requires) in
    absurd (not_portless s c.args.conn c.args.way.outlet (outlet_told s c.args.conn c.args.way h) c.in_ok-get.field-0.now c.in_ok-get.ensures c.in_err-out.ensures)

pub returns-in_err-inp : goal.returns-in_err-inp
returns-in_err-inp c =
    let i = c.self.inside in
    let s : NodeState = record { spec = i.spec; stamp = i.stamp; now = i.moment; known = i.known; live = i.live.map; moves = i.moves; hints = i.hints.map } in
    let h = leads_on s c.args.conn c.args.way (subst (λ (s : NodeState). Some c.args.way ≡ option_map way_in (way_of s c.args.conn)) (sym c.self.view_is) c.requires) in
    let l = c.in_ok-get-2.field-0.now in
    absurd (not_unfed h.way c.args.way l (seated_there s c.args.conn c.args.way h l c.in_ok-get-2.ensures) c.in_err-inp.ensures)

pub will_receive-requires : goal.will_receive-requires
will_receive-requires c =
    let i = c.self.inside in
    let s : NodeState = record { spec = i.spec; stamp = i.stamp; now = i.moment; known = i.known; live = i.live.map; moves = i.moves; hints = i.hints.map } in
    let h = leads_on s c.args.conn c.args.way (subst (λ (s : NodeState). Some c.args.way ≡ option_map way_in (way_of s c.args.conn)) (sym c.self.view_is) c.requires) in
    (lent s c.args.conn c.args.way.outlet (outlet_told s c.args.conn c.args.way h) c.in_ok-get.field-0.now c.in_ok-out.out.now c.in_ok-get.ensures c.in_ok-out.ensures).within

pub returns : goal.returns
returns c =
    let i = c.self.inside in
    let s : NodeState = record { spec = i.spec; stamp = i.stamp; now = i.moment; known = i.known; live = i.live.map; moves = i.moves; hints = i.hints.map } in
    let h = leads_on s c.args.conn c.args.way (subst (λ (s : NodeState). Some c.args.way ≡ option_map way_in (way_of s c.args.conn)) (sym c.self.view_is) c.requires) in
    let l = c.in_ok-get-2.field-0.now in
    let out = (lent s c.args.conn c.args.way.outlet (outlet_told s c.args.conn c.args.way h) c.in_ok-get.field-0.now c.in_ok-out.out.now c.in_ok-get.ensures c.in_ok-out.ensures).port in
    let inp = port_found h.way c.args.way l c.in_ok-inp.inp.now (seated_there s c.args.conn c.args.way h l c.in_ok-get-2.ensures) c.in_ok-inp.ensures in
    let told = c.will_receive.ensures ∙ ap (option_map received_in) (passing_is s c.args.conn c.args.way h c.in_ok-out.out.now c.in_ok-inp.inp.now out inp) in
    subst (λ (s : NodeState). c.will_receive.result ≡ option_map received_in (passing_on (way_of s c.args.conn))) c.self.view_is told

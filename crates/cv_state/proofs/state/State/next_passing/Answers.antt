use Rattle.std.proofs.Common.{◌≡◌, Option, Some, sym, subst}
use Rattle.std.specs.Prelude.{IfOk}
use Rattle.std.specs.Option.{option_map}
use Rattle.cv_protocol.specs.NodeState.{NodeState}
use Rattle.cv_state.specs.declared.pass.Passing.{Passing}
use Rattle.cv_state.specs.Ways.{passing_on, way_in, way_of}
use Rattle.cv_state.proofs.Outlets.{lent, not_portless}
use Rattle.cv_state.proofs.Ways.{leads_on, not_unfed, outlet_told, passing_is, port_found, seated_there}
use Rattle.cv_state.proofs.state.State.next_passing.Goals as goal

pub unreachable-requires-in_default-out : goal.unreachable-requires-in_default-out
unreachable-requires-in_default-out c =
    let i = c.self.inside in
    let s : NodeState = record { spec = i.spec; stamp = i.stamp; now = i.moment; known = i.known; live = i.live.map; moves = i.moves; hints = i.hints.map } in
    let h = leads_on s c.args.conn c.args.way (subst (λ (s : NodeState). Some c.args.way ≡ option_map way_in (way_of s c.args.conn)) (sym c.self.view_is) c.requires) in
    not_portless s c.args.conn c.args.way.outlet (outlet_told s c.args.conn c.args.way h) c.in-Some.producer.now c.in-Some.ensures c.in_default-out.ensures

pub unreachable-requires-in_default-inp : goal.unreachable-requires-in_default-inp
unreachable-requires-in_default-inp c =
    let i = c.self.inside in
    let s : NodeState = record { spec = i.spec; stamp = i.stamp; now = i.moment; known = i.known; live = i.live.map; moves = i.moves; hints = i.hints.map } in
    let h = leads_on s c.args.conn c.args.way (subst (λ (s : NodeState). Some c.args.way ≡ option_map way_in (way_of s c.args.conn)) (sym c.self.view_is) c.requires) in
    let l = c.in-Some-get.consumer.now in
    not_unfed h.way c.args.way l (seated_there s c.args.conn c.args.way h l c.in-Some-get.ensures) c.in_default-inp.ensures

pub next_to_pass-requires : goal.next_to_pass-requires
next_to_pass-requires c =
    let i = c.self.inside in
    let s : NodeState = record { spec = i.spec; stamp = i.stamp; now = i.moment; known = i.known; live = i.live.map; moves = i.moves; hints = i.hints.map } in
    let h = leads_on s c.args.conn c.args.way (subst (λ (s : NodeState). Some c.args.way ≡ option_map way_in (way_of s c.args.conn)) (sym c.self.view_is) c.requires) in
    (lent s c.args.conn c.args.way.outlet (outlet_told s c.args.conn c.args.way h) c.in-Some.producer.now c.in-Some-out.out.now c.in-Some.ensures c.in-Some-out.ensures).within

pub returns : goal.returns
returns c =
    let i = c.self.inside in
    let s : NodeState = record { spec = i.spec; stamp = i.stamp; now = i.moment; known = i.known; live = i.live.map; moves = i.moves; hints = i.hints.map } in
    let h = leads_on s c.args.conn c.args.way (subst (λ (s : NodeState). Some c.args.way ≡ option_map way_in (way_of s c.args.conn)) (sym c.self.view_is) c.requires) in
    let l = c.in-Some-get.consumer.now in
    let out = (lent s c.args.conn c.args.way.outlet (outlet_told s c.args.conn c.args.way h) c.in-Some.producer.now c.in-Some-out.out.now c.in-Some.ensures c.in-Some-out.ensures).port in
    let inp = port_found h.way c.args.way l c.in-Some-inp.inp.now (seated_there s c.args.conn c.args.way h l c.in-Some-get.ensures) c.in-Some-inp.ensures in
    let Is : Option Passing → Type 0 = λ (o : Option Passing). IfOk c.next_to_pass.result (λ passing. passing ≡ o) in
    subst (λ (s : NodeState). Is (passing_on (way_of s c.args.conn))) c.self.view_is (subst Is (passing_is s c.args.conn c.args.way h c.in-Some-out.out.now c.in-Some-inp.inp.now out inp) c.next_to_pass.ensures)

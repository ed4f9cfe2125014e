use Rattle.std.proofs.Common.{◌≡◌, ℕ, Option, Some, sym, subst}
use Rattle.std.specs.Prelude.{IfOk}
use Rattle.std.specs.Option.{option_map}
use Rattle.cv_token.specs.declared.token.Token.{Token}
use Rattle.cv_protocol.specs.NodeState.{NodeState}
use Rattle.cv_protocol.specs.Rows.{outlet as outlet_of}
use Rattle.cv_state.specs.Outlets.{next_at, outlet_in}
use Rattle.cv_state.proofs.Outlets.{has, lent, next_is, not_portless}
use Rattle.cv_state.proofs.state.State.next.Goals as goal

pub unreachable-requires-in_default-out : goal.unreachable-requires-in_default-out
unreachable-requires-in_default-out c =
    let i = c.self.inside in
    let s : NodeState = record { spec = i.spec; stamp = i.stamp; now = i.moment; known = i.known; live = i.live.map; moves = i.moves; hints = i.hints.map } in
    let h = has s c.args.conn c.args.outlet (subst (λ (s : NodeState). Some c.args.outlet ≡ option_map outlet_in (outlet_of s c.args.conn)) (sym c.self.view_is) c.requires) in
    not_portless s c.args.conn c.args.outlet h c.in-Some.live.now c.in-Some.ensures c.in_default-out.ensures

pub next_token-requires : goal.next_token-requires
next_token-requires c =
    let i = c.self.inside in
    let s : NodeState = record { spec = i.spec; stamp = i.stamp; now = i.moment; known = i.known; live = i.live.map; moves = i.moves; hints = i.hints.map } in
    let h = has s c.args.conn c.args.outlet (subst (λ (s : NodeState). Some c.args.outlet ≡ option_map outlet_in (outlet_of s c.args.conn)) (sym c.self.view_is) c.requires) in
    (lent s c.args.conn c.args.outlet h c.in-Some.live.now c.in-Some-out.port.now c.in-Some.ensures c.in-Some-out.ensures).within

pub returns : goal.returns
returns c =
    let i = c.self.inside in
    let s : NodeState = record { spec = i.spec; stamp = i.stamp; now = i.moment; known = i.known; live = i.live.map; moves = i.moves; hints = i.hints.map } in
    let h = has s c.args.conn c.args.outlet (subst (λ (s : NodeState). Some c.args.outlet ≡ option_map outlet_in (outlet_of s c.args.conn)) (sym c.self.view_is) c.requires) in
    let there = lent s c.args.conn c.args.outlet h c.in-Some.live.now c.in-Some-out.port.now c.in-Some.ensures c.in-Some-out.ensures in
    let Is : Option (ℕ × Token) → Type 0 = λ (o : Option (ℕ × Token)). IfOk c.next_token.result (λ next. next ≡ o) in
    subst (λ (s : NodeState). Is (next_at s.spec.window (outlet_of s c.args.conn))) c.self.view_is (subst Is (next_is s c.args.conn c.args.outlet h c.in-Some.live.now c.in-Some-out.port.now there) c.next_token.ensures)

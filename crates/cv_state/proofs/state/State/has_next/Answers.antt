use Rattle.std.proofs.Common.{◌≡◌, Some, is_some, ap, sym, ◌∙◌, subst}
use Rattle.std.specs.Option.{option_map}
use Rattle.cv_protocol.specs.NodeState.{NodeState}
use Rattle.cv_protocol.specs.Rows.{outlet as outlet_of}
use Rattle.cv_state.specs.Outlets.{next_at, outlet_in}
use Rattle.cv_state.proofs.Outlets.{has, lent, next_is, not_portless}
use Rattle.cv_state.proofs.state.State.has_next.Goals as goal

pub is_next-requires : goal.is_next-requires
is_next-requires c =
    let i = c.self.inside in
    let s : NodeState = record { spec = i.spec; stamp = i.stamp; now = i.moment; known = i.known; live = i.live.map; moves = i.moves; hints = i.hints.map } in
    let h = has s c.args.conn c.args.outlet (subst (λ (s : NodeState). Some c.args.outlet ≡ option_map outlet_in (outlet_of s c.args.conn)) (sym c.self.view_is) c.requires) in
    (lent s c.args.conn c.args.outlet h c.in-Some.live.now c.in-Some-out.port.now c.in-Some.ensures c.in-Some-out.ensures).within

pub returns-in-Some-out : goal.returns-in-Some-out
returns-in-Some-out c =
    let i = c.self.inside in
    let s : NodeState = record { spec = i.spec; stamp = i.stamp; now = i.moment; known = i.known; live = i.live.map; moves = i.moves; hints = i.hints.map } in
    let h = has s c.args.conn c.args.outlet (subst (λ (s : NodeState). Some c.args.outlet ≡ option_map outlet_in (outlet_of s c.args.conn)) (sym c.self.view_is) c.requires) in
    let there = lent s c.args.conn c.args.outlet h c.in-Some.live.now c.in-Some-out.port.now c.in-Some.ensures c.in-Some-out.ensures in
    subst (λ (s : NodeState). c.is_next.result ≡ is_some (next_at s.spec.window (outlet_of s c.args.conn))) c.self.view_is (c.is_next.ensures ∙ ap is_some (next_is s c.args.conn c.args.outlet h c.in-Some.live.now c.in-Some-out.port.now there))

pub returns-in-None : goal.returns-in-None
returns-in-None c =
    let i = c.self.inside in
    let s : NodeState = record { spec = i.spec; stamp = i.stamp; now = i.moment; known = i.known; live = i.live.map; moves = i.moves; hints = i.hints.map } in
    let h = has s c.args.conn c.args.outlet (subst (λ (s : NodeState). Some c.args.outlet ≡ option_map outlet_in (outlet_of s c.args.conn)) (sym c.self.view_is) c.requires) in
    absurd (not_portless s c.args.conn c.args.outlet h c.in-Some.live.now c.in-Some.ensures c.in-None.ensures)

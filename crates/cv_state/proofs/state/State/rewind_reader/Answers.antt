use Rattle.std.proofs.Common.{◌≡◌, Some, ap, sym, ◌∙◌, subst}
use Rattle.std.specs.Option.{option_map}
use Rattle.cv_protocol.specs.NodeState.{NodeState}
use Rattle.cv_protocol.specs.Rows.{outlet as outlet_of}
use Rattle.cv_state.specs.Outlets.{outlet_in}
use Rattle.cv_state.specs.Outlets.{rewound_at}
use Rattle.cv_state.proofs.Outlets.{has, lent, not_portless, rewound_is}
use Rattle.cv_state.proofs.state.State.rewind_reader.Goals as goal

pub unreachable-requires-in_default-out_mut : goal.unreachable-requires-in_default-out_mut
unreachable-requires-in_default-out_mut c =
    let i = c.self.inside in
    let s : NodeState = record { spec = i.spec; stamp = i.stamp; now = i.moment; known = i.known; live = i.live.map; moves = i.moves; hints = i.hints.map } in
    let h = has s c.args.conn c.args.outlet (subst (λ (s : NodeState). Some c.args.outlet ≡ option_map outlet_in (outlet_of s c.args.conn)) (sym c.self.view_is) c.requires) in
    not_portless s c.args.conn c.args.outlet h c.in-Some.live.now c.in-Some.ensures.value c.in_default-out_mut.ensures.value

pub rewind-requires : goal.rewind-requires
rewind-requires c =
    let i = c.self.inside in
    let s : NodeState = record { spec = i.spec; stamp = i.stamp; now = i.moment; known = i.known; live = i.live.map; moves = i.moves; hints = i.hints.map } in
    let h = has s c.args.conn c.args.outlet (subst (λ (s : NodeState). Some c.args.outlet ≡ option_map outlet_in (outlet_of s c.args.conn)) (sym c.self.view_is) c.requires) in
    (lent s c.args.conn c.args.outlet h c.in-Some.live.now c.in-Some-out_mut.port.now c.in-Some.ensures.value c.in-Some-out_mut.ensures.value).within

pub returns : goal.returns
returns c =
    let i = c.self.inside in
    let s : NodeState = record { spec = i.spec; stamp = i.stamp; now = i.moment; known = i.known; live = i.live.map; moves = i.moves; hints = i.hints.map } in
    let l = c.in-Some.live.now in
    let o = c.in-Some-out_mut.port.now in
    let h = has s c.args.conn c.args.outlet (subst (λ (s : NodeState). Some c.args.outlet ≡ option_map outlet_in (outlet_of s c.args.conn)) (sym c.self.view_is) c.requires) in
    let next = rewound_is s c.args.conn c.args.outlet h l o c.rewind.new.self (lent s c.args.conn c.args.outlet h l o c.in-Some.ensures.value c.in-Some-out_mut.ensures.value) c.rewind.ensures in
    next ∙ ap (λ (s : NodeState). rewound_at s (outlet_of s c.args.conn)) c.self.view_is

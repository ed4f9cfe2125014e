use Rattle.std.proofs.Common.{◌≡◌, Some, ap, sym, ◌∙◌, subst}
use Rattle.std.specs.Prelude.{IsSome}
use Rattle.std.specs.Option.{option_map}
use Rattle.cv_protocol.specs.NodeState.{NodeState}
use Rattle.cv_protocol.specs.Rows.{outlet as outlet_of}
use Rattle.cv_state.specs.Outlets.{next_at, outlet_in, sent_at}
use Rattle.cv_state.proofs.Outlets.{has, lent, not_portless, sent_is, unsent_there}
use Rattle.cv_state.proofs.state.State.mark_sent.Goals as goal

pub unreachable-requires-in_default-out_mut : goal.unreachable-requires-in_default-out_mut
unreachable-requires-in_default-out_mut c =
    let i = c.self.inside in
    let s : NodeState = record { spec = i.spec; stamp = i.stamp; now = i.moment; known = i.known; live = i.live.map; moves = i.moves; hints = i.hints.map } in
    let h = has s c.args.conn c.args.outlet (subst (λ (s : NodeState). Some c.args.outlet ≡ option_map outlet_in (outlet_of s c.args.conn)) (sym c.self.view_is) c.requires.told) in
    not_portless s c.args.conn c.args.outlet h c.in-Some.live.now c.in-Some.ensures.value c.in_default-out_mut.ensures.value

pub mark_sent-requires : goal.mark_sent-requires
mark_sent-requires c =
    let i = c.self.inside in
    let s : NodeState = record { spec = i.spec; stamp = i.stamp; now = i.moment; known = i.known; live = i.live.map; moves = i.moves; hints = i.hints.map } in
    let h = has s c.args.conn c.args.outlet (subst (λ (s : NodeState). Some c.args.outlet ≡ option_map outlet_in (outlet_of s c.args.conn)) (sym c.self.view_is) c.requires.told) in
    let there = lent s c.args.conn c.args.outlet h c.in-Some.live.now c.in-Some-out_mut.port.now c.in-Some.ensures.value c.in-Some-out_mut.ensures.value in
    unsent_there s c.args.conn c.args.outlet h c.in-Some.live.now c.in-Some-out_mut.port.now there (subst (λ (s : NodeState). IsSome (next_at s.spec.window (outlet_of s c.args.conn))) (sym c.self.view_is) c.requires.there)

pub returns : goal.returns
returns c =
    let i = c.self.inside in
    let s : NodeState = record { spec = i.spec; stamp = i.stamp; now = i.moment; known = i.known; live = i.live.map; moves = i.moves; hints = i.hints.map } in
    let h = has s c.args.conn c.args.outlet (subst (λ (s : NodeState). Some c.args.outlet ≡ option_map outlet_in (outlet_of s c.args.conn)) (sym c.self.view_is) c.requires.told) in
    let there = lent s c.args.conn c.args.outlet h c.in-Some.live.now c.in-Some-out_mut.port.now c.in-Some.ensures.value c.in-Some-out_mut.ensures.value in
    sent_is s c.args.conn c.args.outlet h c.in-Some.live.now c.in-Some-out_mut.port.now c.mark_sent.new.self there c.mark_sent.ensures ∙ ap (λ (s : NodeState). sent_at s (outlet_of s c.args.conn)) c.self.view_is

use Rattle.std.proofs.Common.{◌≡◌, refl, ap, subst, sym}
use Rattle.std.specs.FinMap as map
use Rattle.cv_queue.specs.Ports.{OutView}
use Rattle.cv_protocol.specs.declared.event.Sent.TheVariants as sent
use Rattle.cv_protocol.specs.NodeState.{NodeState}
use Rattle.cv_protocol.specs.Rows.{Did, with_out}
use Rattle.cv_protocol.specs.Deliveries.{nack_comes}
use Rattle.cv_state.specs.Steps.{Does}
use Rattle.cv_state.proofs.Comings.{nacks}
use Rattle.cv_state.proofs.Ends.{is_within, lost, told_again}
use Rattle.cv_state.proofs.Local.{one_found}
use Rattle.cv_state.proofs.state.State.take_nack.Goals as goal

pub unreachable-requires-in_default-out_mut : goal.unreachable-requires-in_default-out_mut
unreachable-requires-in_default-out_mut c =
    let one : c.in-Some.live.now ≡ c.in-Some-get_mut.live.now = one_found _ _ _ c.in-Some.ensures c.in-Some-get_mut.ensures.value in
    let l = c.in-Some-get_mut.live.now in
    lost c.args.conn l.actor.outs c.in-Some-spot.spot (told_again c.args.conn _ l c.in-Some-spot.spot one c.in-Some-spot.ensures) c.in_default-out_mut.ensures.value

pub on_nack-requires : goal.on_nack-requires
on_nack-requires c =
    let one : c.in-Some.live.now ≡ c.in-Some-get_mut.live.now = one_found _ _ _ c.in-Some.ensures c.in-Some-get_mut.ensures.value in
    let l = c.in-Some-get_mut.live.now in
    is_within c.args.conn l.actor.outs c.in-Some-spot.spot c.in-Some-out_mut.port.now (told_again c.args.conn _ l c.in-Some-spot.spot one c.in-Some-spot.ensures) c.in-Some-out_mut.ensures.value

pub returns : goal.returns
returns c =
    let i = c.self.inside in
    let s : NodeState = record { spec = i.spec; stamp = i.stamp; now = i.moment; known = i.known; live = i.live.map; moves = i.moves; hints = i.hints.map } in
    let one : c.in-Some.live.now ≡ c.in-Some-get_mut.live.now = one_found _ _ _ c.in-Some.ensures c.in-Some-get_mut.ensures.value in
    let a = c.args.actor in
    let l = c.in-Some-get_mut.live.now in
    let f = c.in-Some-spot.spot in
    let o = c.in-Some-out_mut.port.now in
    let t = told_again c.args.conn c.in-Some.live.now l f one c.in-Some-spot.ensures in
    let does = nacks s c.args.conn a c.args.upto l f o t c.in-Some-get_mut.ensures.value c.in-Some-out_mut.ensures.value in
    let next : NodeState = record s { live = map.insert s.live a (with_out l f.out c.on_nack.new.out) } in
    let is = ap (λ (p : OutView). record s { live = map.insert s.live a (with_out l f.out p) }) c.on_nack.ensures.after in
    subst (λ (s : NodeState). Does (nack_comes s c.args.conn a c.args.upto (map.get s.live a)) next sent.Nothing) c.self.view_is (subst (λ (d : Did). Does d next sent.Nothing) (sym does) (is, refl, refl))

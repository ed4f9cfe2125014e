-- What frames that come do, as the code finds the ends of their connections.
use Rattle.std.proofs.Common.{◌≡◌, ℕ, true, false, nat_lt, [], ◌∷◌, slice_get, slice_set, Option, Some, ap, sym, ◌∙◌, subst}
use Rattle.std.specs.FinMap as map
use Rattle.cv_token.specs.declared.token.Token.{Token}
use Rattle.cv_token.specs.declared.identifiers.ActorId.{ActorId}
use Rattle.cv_token.specs.declared.identifiers.ConnId.{ConnId}
use Rattle.cv_queue.specs.Ports.{OutView, after_ack}
use Rattle.cv_endpoint.specs.Ends.{after_nack}
use Rattle.cv_actor.specs.declared.finding.Spot.{Spot as Found}
use Rattle.cv_protocol.specs.declared.event.Sent.{Sent}
use Rattle.cv_protocol.specs.Actors.{LiveState}
use Rattle.cv_protocol.specs.NodeState.{NodeState}
use Rattle.cv_protocol.specs.Rows.{Did, uses, with_out}
use Rattle.cv_protocol.specs.Deliveries.{ack_at, ack_comes, nack_at, nack_comes}
use Rattle.cv_protocol.specs.Poll.{limit}
use Rattle.cv_queue.specs.Ports.{InView, after_offer, received}
use Rattle.cv_endpoint.specs.declared.ends.Answer.{Answer}
use Rattle.cv_endpoint.specs.Ends.{answer_of}
use Rattle.cv_protocol.specs.declared.state.Inlet.{Inlet}
use Rattle.cv_protocol.specs.declared.frame.Body.{Body}
use Rattle.cv_protocol.specs.declared.refusal.StepRefusal.TheVariants as refusal
use Rattle.cv_protocol.specs.NodeRow.{spent_unless}
use Rattle.cv_protocol.specs.Rows.{frame_to, with_inlet}
use Rattle.cv_protocol.specs.Deliveries.{offer_to, told, token_comes, token_into}
use Rattle.cv_actor.specs.Lends.{refilled, with_inport}
use Rattle.cv_state.specs.Steps.{Does, frames_of}
use Rattle.cv_state.proofs.Ends.{Told, port_is}
use Rattle.cv_state.proofs.Seats.{Seated}

-- 1. Acknowledgements

pub acks : (s : NodeState) (conn : ConnId) (a : ActorId) (upto : ℕ) (l : LiveState) (f : Found) (o : OutView) → Told conn l.actor.outs f → Some l ≡ map.get s.live a → Some o ≡ slice_get l.actor.outs f.out → ack_comes s conn a upto (map.get s.live a) ≡ uses s a (with_out l f.out (after_ack o f.number upto))
acks s conn a upto l f o t here port =
    ap (ack_comes s conn a upto) (sym here)
    ∙ ap (ack_at s a l upto) t.there
    ∙ ap (λ (p : OutView). uses s a (with_out l t.spot.out (after_ack p t.spot.number upto))) (sym (port_is conn l.actor.outs f o t port))
    ∙ ap (λ (y : Found). uses s a (with_out l y.out (after_ack o y.number upto))) (sym t.is)

pub nacks : (s : NodeState) (conn : ConnId) (a : ActorId) (upto : ℕ) (l : LiveState) (f : Found) (o : OutView) → Told conn l.actor.outs f → Some l ≡ map.get s.live a → Some o ≡ slice_get l.actor.outs f.out → nack_comes s conn a upto (map.get s.live a) ≡ uses s a (with_out l f.out (after_nack o f.number upto))
nacks s conn a upto l f o t here port =
    ap (nack_comes s conn a upto) (sym here)
    ∙ ap (nack_at s a l upto) t.there
    ∙ ap (λ (p : OutView). uses s a (with_out l t.spot.out (after_nack p t.spot.number upto))) (sym (port_is conn l.actor.outs f o t port))
    ∙ ap (λ (y : Found). uses s a (with_out l y.out (after_nack o y.number upto))) (sym t.is)

-- 2. Tokens

pub offers : (s : NodeState) (stamp sender : ℕ) (conn : ConnId) (a : ActorId) (n : ℕ) (t : Token) (l : LiveState) (inp : ℕ) (h : Seated conn l inp) → Some l ≡ map.get s.live a → token_comes s stamp sender conn a n t (map.get s.live a) ≡ offer_to s stamp sender a l h.seat n t
offers s stamp sender conn a n t l inp h here =
    ap (token_comes s stamp sender conn a n t) (sym here) ∙ ap (token_into s stamp sender a l n t) h.there

-- the actor with another inport at its seat
seat_filled : (conn : ConnId) (l : LiveState) (inp : ℕ) (h : Seated conn l inp) (p : InView) → with_inport l inp p ≡ with_inlet l h.seat.inp (record (h.seat.inlet) { port = p })
seat_filled conn l inp h p =
    ap (λ (i : Option Inlet). record l { actor = record (l.actor) { ins = slice_set l.actor.ins inp (refilled p i) } }) h.inlet
    ∙ ap (λ (k : ℕ). with_inlet l k (record (h.seat.inlet) { port = p })) h.is

-- the token is offered as the code was told
pub offered : (s : NodeState) (stamp sender : ℕ) (conn : ConnId) (a : ActorId) (n : ℕ) (t : Token) (l : LiveState) (inp : ℕ) (h : Seated conn l inp) (port p : InView) (ends : ConnId × ActorId) (answer : Answer) (b : Body) (what : Sent) → Some l ≡ map.get s.live a → port ≡ h.seat.inlet.port → ends ≡ (h.seat.inlet.conn, h.seat.inlet.producer) → p ≡ after_offer port n t → answer ≡ answer_of port n t → b ≡ told ends.0 ends.1 answer → frames_of what ≡ frame_to s stamp sender b ∷ [] → true ≡ nat_lt (received (after_offer port n t)) limit → Does (token_comes s stamp sender conn a n t (map.get s.live a)) (record s { live = map.insert s.live a (with_inport l inp p) }) what
offered s stamp sender conn a n t l inp h port p ends answer b what here is connections after answers says sent fits =
    let i = h.seat.inlet in
    let next = ap (λ (x : LiveState). record s { live = map.insert s.live a x }) (seat_filled conn l inp h p ∙ ap (λ (q : InView). with_inlet l h.seat.inp (record i { port = q })) (after ∙ ap (λ (q : InView). after_offer q n t) is)) in
    let said = says ∙ ap (λ (e : ConnId × ActorId). told e.0 e.1 answer) connections ∙ ap (told i.conn i.producer) (answers ∙ ap (λ (q : InView). answer_of q n t) is) in
    let frames = sent ∙ ap (λ (x : Body). frame_to s stamp sender x ∷ []) said in
    subst (λ (d : Did). Does d (record s { live = map.insert s.live a (with_inport l inp p) }) what) (sym (offers s stamp sender conn a n t l inp h here)) (next, frames, sym (ap (λ (q : InView). nat_lt (received (after_offer q n t)) limit) is) ∙ sym fits)

-- whether its numbers fit
pub offer_fits : (s : NodeState) (stamp sender : ℕ) (conn : ConnId) (a : ActorId) (n : ℕ) (t : Token) (l : LiveState) (inp : ℕ) (h : Seated conn l inp) (port : InView) → Some l ≡ map.get s.live a → port ≡ h.seat.inlet.port → (token_comes s stamp sender conn a n t (map.get s.live a)).fits ≡ nat_lt (received (after_offer port n t)) limit
offer_fits s stamp sender conn a n t l inp h port here is =
    ap (λ (d : Did). d.fits) (offers s stamp sender conn a n t l inp h here)
    ∙ ap (λ (q : InView). nat_lt (received (after_offer q n t)) limit) (sym is)

-- and where its number is spent
pub offer_spent : (s : NodeState) (stamp sender : ℕ) (conn : ConnId) (a : ActorId) (n : ℕ) (t : Token) (l : LiveState) (inp : ℕ) (h : Seated conn l inp) (port : InView) → Some l ≡ map.get s.live a → port ≡ h.seat.inlet.port → false ≡ nat_lt (received (after_offer port n t)) limit → spent_unless (token_comes s stamp sender conn a n t (map.get s.live a)).fits ≡ Some refusal.StampSpent
offer_spent s stamp sender conn a n t l inp h port here is late = ap spent_unless (offer_fits s stamp sender conn a n t l inp h port here is ∙ sym late)

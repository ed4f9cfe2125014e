-- States and frames that travel have trees of their own.
use Rattle.std.proofs.Common.{◌≡◌, ℕ, false, ◌≤◌, List, [], ◌∷◌, map, Option, Some, None, codes, refl, sym, ap, ap₂, ◌∙◌, arith}
use Rattle.std.proofs.lemmas.Slice.Eq.{bytes_eq-Decides}
use Rattle.std.specs.Str.{bytes_eq}
use Rattle.cv_token.specs.declared.token.Token.{Token}
use Rattle.cv_token.specs.declared.token.Token.TheVariants as tree
use Rattle.cv_queue.specs.Ports.{OutView, in_at, out_at}
use Rattle.cv_protocol.specs.Actors.{StateView}
use Rattle.cv_protocol.specs.Travel.{queue_length}
use Rattle.cv_protocol.specs.declared.state.Inlet.{Inlet}
use Rattle.cv_protocol.specs.declared.frame.Body.{Body}
use Rattle.cv_protocol.specs.declared.frame.Body.TheVariants as body
use Rattle.cv_protocol.specs.declared.frame.Frame.{Frame}
use Rattle.cv_protocol.specs.declared.frame.Verdict.{Verdict}
use Rattle.cv_protocol.specs.declared.frame.Verdict.TheVariants as verdict
use Rattle.cv_frame.specs.Trees.{body_tree, frame_tree, hint_tree, inlet_tree, number, app_tree, actor_tree, conn_tree, out_tree, state_tree, subscription_tree, verdict_number, word}
use Rattle.cv_frame.specs.Values.{IsBody, IsFrame, IsIn, IsOut, IsState}
use Rattle.cv_frame.specs.laws.Arguments.{one_spec, one_word}
use Rattle.cv_frame.specs.laws.Members.{value_at}
use Rattle.cv_frame.specs.laws.Ones.{both_at, one_actor, one_app, one_conn, one_number, same_hints, same_images, same_readers}
use Rattle.cv_frame.specs.laws.Shapes.{same_list}
use Rattle.cv_frame.specs.laws.Stands.{out_told}

-- ---- ports

null_is_no_list : (ts : List Token) → tree.Null ≡ tree.List ts → ⊥
null_is_no_list ts e = cc

one_in : (a b : Option Inlet) → IsIn a → IsIn b → inlet_tree a ≡ inlet_tree b → a ≡ b
one_in None None j k e = refl
one_in None (Some b) j k e = absurd (null_is_no_list _ e)
one_in (Some a) None j k e = absurd (null_is_no_list _ (sym e))
one_in (Some a) (Some b) j k e =
    let conn : a.conn ≡ b.conn = one_conn a.conn b.conn j.conn k.conn (both_at _ _ 0 e) in
    let producer : a.producer ≡ b.producer = one_actor a.producer b.producer j.producer k.producer (both_at _ _ 1 e) in
    let taken : a.port.taken ≡ b.port.taken = one_number a.port.taken b.port.taken j.taken k.taken (both_at _ _ 2 e) in
    let held : a.port.held ≡ b.port.held = same_list (tree.List a.port.held) _ _ refl (both_at _ _ 3 e) in
    let port : a.port ≡ b.port = j.stands ∙ ap₂ (in_at queue_length) taken held ∙ sym k.stands in
    ap Some (λ i. record { conn = conn i; producer = producer i; port = port i })

one_out : (a b : OutView) → IsOut a → IsOut b → out_tree a ≡ out_tree b → a ≡ b
one_out a b j k e =
    let told = sym (out_told a j) ∙ e ∙ out_told b k in
    let write : a.write ≡ b.write = one_number a.write b.write j.write k.write (both_at _ _ 0 told) in
    let held : a.held ≡ b.held = same_list (tree.List a.held) _ _ refl (both_at _ _ 1 told) in
    let readers : j.readers ≡ k.readers = same_readers j.readers k.readers j.these.each k.these.each (same_list (tree.List (map subscription_tree j.readers)) _ _ refl (both_at _ _ 2 told)) in
    j.stands ∙ (λ i. out_at queue_length (write i) (held i) (readers i)) ∙ sym k.stands

-- ---- states

pub one_state : (s r : StateView) → IsState s → IsState r → s.actor.id ≡ r.actor.id → state_tree s ≡ state_tree r → s ≡ r
one_state s r j k id e =
    let path = both_at _ _ 1 e in
    let kind = both_at _ _ 2 e in
    let args = both_at _ _ 3 e in
    let spec : s.actor.spec ≡ r.actor.spec = one_spec s.actor.spec r.actor.spec (λ i. (path i, (kind i, args i))) in
    let slots : s.actor.slots ≡ r.actor.slots = same_list (tree.List s.actor.slots) _ _ refl (both_at _ _ 4 e) in
    let wait : s.wait ≡ r.wait = one_number s.wait r.wait (omega (arith, j.wait)) (omega (arith, k.wait)) (both_at _ _ 5 e) in
    let ins : s.actor.ins ≡ r.actor.ins = same_images IsIn inlet_tree one_in _ _ j.ins k.ins (same_list (tree.List (map inlet_tree s.actor.ins)) _ _ refl (both_at _ _ 7 e)) in
    let outs : s.actor.outs ≡ r.actor.outs = same_images IsOut out_tree one_out _ _ j.outs k.outs (same_list (tree.List (map out_tree s.actor.outs)) _ _ refl (both_at _ _ 8 e)) in
    let hints : s.hints ≡ r.hints = same_hints s.hints r.hints j.hints.each k.hints.each (same_list (tree.List (map hint_tree s.hints)) _ _ refl (both_at _ _ 9 e)) in
    λ i. record { actor = record { id = id i; spec = spec i; slots = slots i; ins = ins i; outs = outs i }; wait = wait i; hints = hints i }

-- ---- frames

-- the word before what a body says
word_of : Body → List ℕ
word_of (body.Token conn actor n t) = codes "token"
word_of (body.Ack conn actor n) = codes "ack"
word_of (body.Nack conn actor n) = codes "nack"
word_of (body.Transfer actor n state) = codes "transfer"
word_of (body.Verdict actor n v) = codes "verdict"
word_of (body.Cancel actor n) = codes "cancel"
word_of (body.Located actor n node) = codes "located"
word_of (body.Destroy app) = codes "destroy"

parts_of : Body → List Token
parts_of (body.Token conn actor n t) = conn_tree conn ∷ actor_tree actor ∷ number n ∷ t ∷ []
parts_of (body.Ack conn actor n) = conn_tree conn ∷ actor_tree actor ∷ number n ∷ []
parts_of (body.Nack conn actor n) = conn_tree conn ∷ actor_tree actor ∷ number n ∷ []
parts_of (body.Transfer actor n state) = actor_tree actor ∷ number n ∷ state_tree state ∷ []
parts_of (body.Verdict actor n v) = actor_tree actor ∷ number n ∷ number (verdict_number v) ∷ []
parts_of (body.Cancel actor n) = actor_tree actor ∷ number n ∷ []
parts_of (body.Located actor n node) = actor_tree actor ∷ number n ∷ number node ∷ []
parts_of (body.Destroy app) = app_tree app ∷ []

told : (b : Body) → body_tree b ≡ tree.List (word (word_of b) ∷ parts_of b)
unfolding word_of parts_of
told (body.Token conn actor n t) = refl
told b = refl

pub apart : (xs ys : List ℕ) → bytes_eq xs ys ≡ false → xs ≡ ys → ⊥
apart xs ys differ e = let same = (bytes_eq-Decides xs ys).1 e in cc

same_word : (b c : Body) → body_tree b ≡ body_tree c → word_of b ≡ word_of c
same_word b c e = one_word _ _ (both_at _ _ 0 (sym (told b) ∙ e ∙ told c))

one_verdict : (v w : Verdict) → verdict_number v ≡ verdict_number w → v ≡ w
one_verdict verdict.Accepted verdict.Accepted e = refl
one_verdict verdict.Unfit verdict.Unfit e = refl
one_verdict verdict.Full verdict.Full e = refl
one_verdict verdict.Gone verdict.Gone e = refl
one_verdict verdict.Cancelled verdict.Cancelled e = refl
one_verdict v w e = absurd (omega arith)

few : (v : Verdict) → verdict_number v ≤ 4
few verdict.Accepted = omega arith
few v = omega arith

one_body : (b c : Body) → IsBody b → IsBody c → body_tree b ≡ body_tree c → b ≡ c
unfolding word_of
one_body (body.Token conn actor n t) (body.Token conn' actor' n' t') j k e =
    let c = one_conn conn conn' j.0 k.0 (both_at _ _ 1 e) in
    let a = one_actor actor actor' j.1 k.1 (both_at _ _ 2 e) in
    let m = one_number n n' j.2 k.2 (both_at _ _ 3 e) in
    let u = both_at _ _ 4 e in
    λ i. body.Token (c i) (a i) (m i) (u i)
one_body (body.Ack conn actor n) (body.Ack conn' actor' n') j k e =
    let c = one_conn conn conn' j.0 k.0 (both_at _ _ 1 e) in
    let a = one_actor actor actor' j.1 k.1 (both_at _ _ 2 e) in
    let m = one_number n n' j.2 k.2 (both_at _ _ 3 e) in
    λ i. body.Ack (c i) (a i) (m i)
one_body (body.Nack conn actor n) (body.Nack conn' actor' n') j k e =
    let c = one_conn conn conn' j.0 k.0 (both_at _ _ 1 e) in
    let a = one_actor actor actor' j.1 k.1 (both_at _ _ 2 e) in
    let m = one_number n n' j.2 k.2 (both_at _ _ 3 e) in
    λ i. body.Nack (c i) (a i) (m i)
one_body (body.Transfer actor n state) (body.Transfer actor' n' state') j k e =
    let a = one_actor actor actor' j.0 k.0 (both_at _ _ 1 e) in
    let m = one_number n n' j.1 k.1 (both_at _ _ 2 e) in
    let s = one_state state state' j.2 k.2 (j.3 ∙ a ∙ sym k.3) (both_at _ _ 3 e) in
    λ i. body.Transfer (a i) (m i) (s i)
one_body (body.Verdict actor n v) (body.Verdict actor' n' v') j k e =
    let a = one_actor actor actor' j.0 k.0 (both_at _ _ 1 e) in
    let m = one_number n n' j.1 k.1 (both_at _ _ 2 e) in
    let w = one_verdict v v' (one_number (verdict_number v) (verdict_number v') (omega (arith, few v)) (omega (arith, few v')) (both_at _ _ 3 e)) in
    λ i. body.Verdict (a i) (m i) (w i)
one_body (body.Cancel actor n) (body.Cancel actor' n') j k e =
    let a = one_actor actor actor' j.0 k.0 (both_at _ _ 1 e) in
    let m = one_number n n' j.1 k.1 (both_at _ _ 2 e) in
    λ i. body.Cancel (a i) (m i)
one_body (body.Located actor n node) (body.Located actor' n' node') j k e =
    let a = one_actor actor actor' j.0 k.0 (both_at _ _ 1 e) in
    let m = one_number n n' j.1 k.1 (both_at _ _ 2 e) in
    let o = one_number node node' (omega (arith, j.2.1)) (omega (arith, k.2.1)) (both_at _ _ 3 e) in
    λ i. body.Located (a i) (m i) (o i)
one_body (body.Destroy app) (body.Destroy app') j k e =
    let a = one_app app app' j k (both_at _ _ 0 (both_at _ _ 1 e)) (both_at _ _ 1 (both_at _ _ 1 e)) in
    λ i. body.Destroy (a i)
one_body b c j k e = absurd (apart (word_of b) (word_of c) refl (same_word b c e))

pub one_frame : (f g : Frame) → IsFrame f → IsFrame g → frame_tree f ≡ frame_tree g → f ≡ g
one_frame f g j k e =
    let from : f.from ≡ g.from = one_number f.from g.from (omega (arith, j.from.1)) (omega (arith, k.from.1)) (value_at (frame_tree f) _ _ 1 refl e) in
    let to : f.to ≡ g.to = one_number f.to g.to (omega (arith, j.to.1)) (omega (arith, k.to.1)) (value_at (frame_tree f) _ _ 3 refl e) in
    let stamp : f.stamp ≡ g.stamp = one_number f.stamp g.stamp j.stamp k.stamp (value_at (frame_tree f) _ _ 2 refl e) in
    let says : f.body ≡ g.body = one_body f.body g.body j.body k.body (value_at (frame_tree f) _ _ 0 refl e) in
    λ i. record { from = from i; to = to i; stamp = stamp i; body = says i }

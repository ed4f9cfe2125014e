-- Entries and heads that have a text have trees of their own.
use Rattle.std.proofs.Common.{◌≡◌, ℕ, List, [], ◌∷◌, codes, refl, sym, ap, ap₂, ◌∙◌, arith}
use Rattle.cv_token.specs.declared.pairs.Pair.{Pair}
use Rattle.cv_token.specs.declared.token.Token.{Token}
use Rattle.cv_token.specs.declared.token.Token.TheVariants as tree
use Rattle.cv_network.specs.Written.{network_token}
use Rattle.cv_protocol.specs.declared.event.Entry.{Entry}
use Rattle.cv_protocol.specs.declared.event.Event.{Event}
use Rattle.cv_protocol.specs.declared.event.Event.TheVariants as event
use Rattle.cv_frame.specs.Trees.{number, word, app_tree, actor_tree, conn_tree, frame_tree}
use Rattle.cv_frame.specs.laws.Arguments.{one_word}
use Rattle.cv_frame.specs.laws.Members.{same_pairs}
use Rattle.cv_frame.specs.laws.OneFrame.{apart, one_frame}
use Rattle.cv_frame.specs.laws.Ones.{both_at, one_actor, one_app, one_conn, one_number, same_images}
use Rattle.cv_entry.specs.declared.head.Head.{Head}
use Rattle.cv_entry.specs.laws.OneNetwork.{one_network}
use Rattle.cv_entry.specs.Trees.{attr_member, attrs_tree, event_tree, entry_tree, head_tree}
use Rattle.cv_entry.specs.Values.{AreAttrs, IsAttr, IsEntry, IsEvent, IsHead}

-- ---- attributes

one_attr : (a b : Pair (List ℕ)) → IsAttr a → IsAttr b → attr_member a ≡ attr_member b → a ≡ b
one_attr a b j k e =
    let key : a.key ≡ b.key = ap (λ (p : Pair Token). p.key) e in
    let value : a.value ≡ b.value = one_word a.value b.value (ap (λ (p : Pair Token). p.value) e) in
    λ i. record { key = key i; value = value i }

pub one_attrs : (xs ys : List (Pair (List ℕ))) → AreAttrs xs → AreAttrs ys → attrs_tree xs ≡ attrs_tree ys → xs ≡ ys
one_attrs xs ys j k e = same_images IsAttr attr_member one_attr xs ys j.each k.each (same_pairs (attrs_tree xs) _ _ refl e)

-- ---- events

-- the name before an event's fields
name_of : Event → List ℕ
name_of (event.Meet node attrs) = codes "meet"
name_of (event.Deploy name net) = codes "deploy"
name_of (event.Tick now) = codes "tick"
name_of (event.Peek actor port) = codes "peek"
name_of (event.Fire actor action) = codes "fire"
name_of (event.Pass conn) = codes "pass"
name_of (event.Send conn) = codes "send"
name_of (event.Rewind conn) = codes "rewind"
name_of (event.Freeze actor to) = codes "freeze"
name_of (event.Resend actor) = codes "resend"
name_of (event.Withdraw actor) = codes "withdraw"
name_of (event.Hint actor attempt node) = codes "hint"
name_of (event.Destroy app) = codes "destroy"
name_of (event.Lose frame) = codes "lose"
name_of (event.Deliver frame) = codes "deliver"

fields_of : Event → List Token
fields_of (event.Meet node attrs) = number node ∷ attrs_tree attrs ∷ []
fields_of (event.Deploy name net) = word name ∷ network_token net ∷ []
fields_of (event.Tick now) = number now ∷ []
fields_of (event.Peek actor port) = actor_tree actor ∷ number port ∷ []
fields_of (event.Fire actor action) = actor_tree actor ∷ number action ∷ []
fields_of (event.Pass conn) = conn_tree conn ∷ []
fields_of (event.Send conn) = conn_tree conn ∷ []
fields_of (event.Rewind conn) = conn_tree conn ∷ []
fields_of (event.Freeze actor to) = actor_tree actor ∷ number to ∷ []
fields_of (event.Resend actor) = actor_tree actor ∷ []
fields_of (event.Withdraw actor) = actor_tree actor ∷ []
fields_of (event.Hint actor attempt node) = actor_tree actor ∷ number attempt ∷ number node ∷ []
fields_of (event.Destroy app) = app_tree app ∷ []
fields_of (event.Lose frame) = frame_tree frame ∷ []
fields_of (event.Deliver frame) = frame_tree frame ∷ []

told : (e : Event) → event_tree e ≡ tree.List (word (name_of e) ∷ fields_of e)
unfolding name_of fields_of
told (event.Meet node attrs) = refl
told e = refl

same_name : (d e : Event) → event_tree d ≡ event_tree e → name_of d ≡ name_of e
same_name d e is = one_word _ _ (both_at _ _ 0 (sym (told d) ∙ is ∙ told e))

one_event : (d e : Event) → IsEvent d → IsEvent e → event_tree d ≡ event_tree e → d ≡ e
unfolding name_of
one_event (event.Meet node attrs) (event.Meet node' attrs') j k e =
    let n = one_number node node' (omega (arith, j.0.1)) (omega (arith, k.0.1)) (both_at _ _ 1 e) in
    let a = one_attrs attrs attrs' j.1 k.1 (both_at _ _ 2 e) in
    λ i. event.Meet (n i) (a i)
one_event (event.Deploy name net) (event.Deploy name' net') j k e =
    let n = one_word name name' (both_at _ _ 1 e) in
    let m = one_network net net' j.1 k.1 (both_at _ _ 2 e) in
    λ i. event.Deploy (n i) (m i)
one_event (event.Tick now) (event.Tick now') j k e = ap event.Tick (one_number now now' j k (both_at _ _ 1 e))
one_event (event.Peek actor port) (event.Peek actor' port') j k e =
    ap₂ event.Peek (one_actor actor actor' j.0 k.0 (both_at _ _ 1 e)) (one_number port port' (omega (arith, j.1)) (omega (arith, k.1)) (both_at _ _ 2 e))
one_event (event.Fire actor action) (event.Fire actor' action') j k e =
    ap₂ event.Fire (one_actor actor actor' j.0 k.0 (both_at _ _ 1 e)) (one_number action action' (omega (arith, j.1)) (omega (arith, k.1)) (both_at _ _ 2 e))
one_event (event.Pass conn) (event.Pass conn') j k e = ap event.Pass (one_conn conn conn' j k (both_at _ _ 1 e))
one_event (event.Send conn) (event.Send conn') j k e = ap event.Send (one_conn conn conn' j k (both_at _ _ 1 e))
one_event (event.Rewind conn) (event.Rewind conn') j k e = ap event.Rewind (one_conn conn conn' j k (both_at _ _ 1 e))
one_event (event.Freeze actor to) (event.Freeze actor' to') j k e =
    ap₂ event.Freeze (one_actor actor actor' j.0 k.0 (both_at _ _ 1 e)) (one_number to to' (omega (arith, j.1.1)) (omega (arith, k.1.1)) (both_at _ _ 2 e))
one_event (event.Resend actor) (event.Resend actor') j k e = ap event.Resend (one_actor actor actor' j k (both_at _ _ 1 e))
one_event (event.Withdraw actor) (event.Withdraw actor') j k e = ap event.Withdraw (one_actor actor actor' j k (both_at _ _ 1 e))
one_event (event.Hint actor attempt node) (event.Hint actor' attempt' node') j k e =
    let a = one_actor actor actor' j.0 k.0 (both_at _ _ 1 e) in
    let m = one_number attempt attempt' j.1 k.1 (both_at _ _ 2 e) in
    let n = one_number node node' (omega (arith, j.2.1)) (omega (arith, k.2.1)) (both_at _ _ 3 e) in
    λ i. event.Hint (a i) (m i) (n i)
one_event (event.Destroy app) (event.Destroy app') j k e =
    ap event.Destroy (one_app app app' j k (both_at _ _ 0 (both_at _ _ 1 e)) (both_at _ _ 1 (both_at _ _ 1 e)))
one_event (event.Lose frame) (event.Lose frame') j k e = ap event.Lose (one_frame frame frame' j k (both_at _ _ 1 e))
one_event (event.Deliver frame) (event.Deliver frame') j k e = ap event.Deliver (one_frame frame frame' j k (both_at _ _ 1 e))
one_event d e j k is = absurd (apart (name_of d) (name_of e) refl (same_name d e is))

-- ---- entries and heads

pub one_entry : (d e : Entry) → IsEntry d → IsEntry e → entry_tree d ≡ entry_tree e → d ≡ e
one_entry d e j k is =
    let stamp : d.stamp ≡ e.stamp = one_number d.stamp e.stamp j.stamp k.stamp (both_at _ _ 0 is) in
    let says : d.event ≡ e.event = one_event d.event e.event j.event k.event (both_at _ _ 1 is) in
    λ i. record { stamp = stamp i; event = says i }

pub one_head : (g h : Head) → IsHead g → IsHead h → head_tree g ≡ head_tree h → g ≡ h
one_head g h j k is =
    let no : g.spec.no ≡ h.spec.no = one_number g.spec.no h.spec.no (omega (arith, j.no.1)) (omega (arith, k.no.1)) (both_at _ _ 1 is) in
    let room : g.spec.room ≡ h.spec.room = one_number g.spec.room h.spec.room (omega (arith, j.room)) (omega (arith, k.room)) (both_at _ _ 2 is) in
    let window : g.spec.window ≡ h.spec.window = one_number g.spec.window h.spec.window (omega (arith, j.window.1)) (omega (arith, k.window.1)) (both_at _ _ 3 is) in
    let attrs : g.spec.attrs ≡ h.spec.attrs = one_attrs g.spec.attrs h.spec.attrs j.attrs k.attrs (both_at _ _ 4 is) in
    let dropped : g.dropped ≡ h.dropped = one_number g.dropped h.dropped j.dropped k.dropped (both_at _ _ 5 is) in
    λ i. record { spec = record { no = no i; room = room i; window = window i; attrs = attrs i }; dropped = dropped i }

-- no entry's tree is a head's
pub entry_is_no_head : (e : Entry) (h : Head) → entry_tree e ≡ head_tree h → ⊥
entry_is_no_head e h is = let first : number e.stamp ≡ word (codes "node") = both_at _ _ 0 is in cc

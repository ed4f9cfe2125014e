-- The trees of entries and heads that have a text are trees that JSON can hold.
use Rattle.std.proofs.Common.{◌≡◌, ℕ, suc, ◌≤◌, true, ◌&&◌, List, [], ◌∷◌, map, codes, refl, ap₂, ◌∙◌, arith}
use Rattle.std.specs.List.{All}
use Rattle.cv_token.specs.declared.pairs.Pair.{Pair}
use Rattle.cv_token.specs.declared.token.Token.{Token}
use Rattle.cv_token.specs.Forms.{on_values}
use Rattle.cv_token.specs.Shape.{all_members, depth, greatest_value, is_token}
use Rattle.cv_token.specs.Spells.{IsTree}
use Rattle.cv_token.proofs.Levels.{is_token-Dict}
use Rattle.cv_token.proofs.Rises.{are_rising-from_keys}
use Rattle.cv_network.proofs.Held.{a_network}
use Rattle.cv_protocol.specs.declared.event.Entry.{Entry}
use Rattle.cv_protocol.specs.declared.event.Event.{Event}
use Rattle.cv_protocol.specs.declared.event.Event.TheVariants as event
use Rattle.cv_frame.specs.laws.Ones.{rest_all}
use Rattle.cv_frame.proofs.Held.{Within, a_conn, a_frame, a_list, a_literal, a_number, a_word, an_actor, an_app, dict-depth, word-depth, word-token}
use Rattle.cv_entry.specs.declared.head.Head.{Head}
use Rattle.cv_entry.specs.Trees.{attr_member, attrs_tree, event_tree, entry_tree, head_tree}
use Rattle.cv_entry.specs.Values.{AreAttrs, IsAttr, IsEntry, IsEvent, IsHead}
use Rattle.cv_entry.proofs.Keyed.{members_rise}

-- ---- attributes

attrs_known : (attrs : List (Pair (List ℕ))) → All IsAttr attrs → all_members (on_values is_token (map attr_member attrs)) ≡ true
attrs_known [] all = refl
attrs_known (a ∷ attrs) all =
    let first = all 0 a (omega arith) in
    ap₂ ◌&&◌ first.letters (ap₂ ◌&&◌ (word-token a.value ∙ first.text) (attrs_known attrs (rest_all IsAttr a attrs all)))

attrs_flat : (attrs : List (Pair (List ℕ))) → greatest_value (on_values depth (map attr_member attrs)) ≤ 0
attrs_flat [] = omega arith
attrs_flat (a ∷ attrs) = omega (arith, word-depth a.value, attrs_flat attrs)

pub an_attrs : (k : ℕ) (attrs : List (Pair (List ℕ))) → AreAttrs attrs → Within (suc k) (attrs_tree attrs)
an_attrs k attrs h =
    let ps = map attr_member attrs in
    record {
      token = is_token-Dict ps ∙ ap₂ ◌&&◌ (are_rising-from_keys is_token ps (members_rise attrs h.rising)) (attrs_known attrs h.each);
      shallow = omega (arith, dict-depth ps, attrs_flat attrs);
    }

-- ---- events

an_event : (e : Event) → IsEvent e → Within 23 (event_tree e)
an_event (event.Meet node attrs) k = a_list 22 _ (a_literal 22 (codes "meet") refl, (a_number 22 node, (an_attrs 21 attrs k.1, tt)))
an_event (event.Deploy name net) k =
    let h = a_network net k.1 in
    a_list 22 _ (a_literal 22 (codes "deploy") refl, (a_word 22 name k.0, (record { token = h.token; shallow = omega (arith, h.shallow) }, tt)))
an_event (event.Tick now) k = a_list 22 _ (a_literal 22 (codes "tick") refl, (a_number 22 now, tt))
an_event (event.Peek actor port) k = a_list 22 _ (a_literal 22 (codes "peek") refl, (an_actor 21 actor, (a_number 22 port, tt)))
an_event (event.Fire actor action) k = a_list 22 _ (a_literal 22 (codes "fire") refl, (an_actor 21 actor, (a_number 22 action, tt)))
an_event (event.Pass conn) k = a_list 22 _ (a_literal 22 (codes "pass") refl, (a_conn 21 conn, tt))
an_event (event.Send conn) k = a_list 22 _ (a_literal 22 (codes "send") refl, (a_conn 21 conn, tt))
an_event (event.Rewind conn) k = a_list 22 _ (a_literal 22 (codes "rewind") refl, (a_conn 21 conn, tt))
an_event (event.Freeze actor to) k = a_list 22 _ (a_literal 22 (codes "freeze") refl, (an_actor 21 actor, (a_number 22 to, tt)))
an_event (event.Resend actor) k = a_list 22 _ (a_literal 22 (codes "resend") refl, (an_actor 21 actor, tt))
an_event (event.Withdraw actor) k = a_list 22 _ (a_literal 22 (codes "withdraw") refl, (an_actor 21 actor, tt))
an_event (event.Hint actor attempt node) k = a_list 22 _ (a_literal 22 (codes "hint") refl, (an_actor 21 actor, (a_number 22 attempt, (a_number 22 node, tt))))
an_event (event.Destroy app) k = a_list 22 _ (a_literal 22 (codes "destroy") refl, (an_app 21 app, tt))
an_event (event.Lose frame) k = a_list 22 _ (a_literal 22 (codes "lose") refl, (a_frame frame k, tt))
an_event (event.Deliver frame) k = a_list 22 _ (a_literal 22 (codes "deliver") refl, (a_frame frame k, tt))

-- ---- entries and heads

held : (n : ℕ) (t : Token) → n ≤ 127 → Within n t → IsTree t
held n t le h = record { token = h.token; shallow = omega (arith, h.shallow) }

pub entry_held : (e : Entry) → IsEntry e → IsTree (entry_tree e)
entry_held e k = held 24 _ (omega arith) (a_list 23 _ (a_number 23 e.stamp, (an_event e.event k.event, tt)))

pub head_held : (h : Head) → IsHead h → IsTree (head_tree h)
head_held h k =
    held 2 _ (omega arith) (a_list 1 _ (a_literal 1 (codes "node") refl, (a_number 1 h.spec.no, (a_number 1 h.spec.room, (a_number 1 h.spec.window, (an_attrs 0 h.spec.attrs k.attrs, (a_number 1 h.dropped, tt)))))))

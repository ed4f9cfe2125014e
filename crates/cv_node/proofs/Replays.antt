-- A journal with one entry more leaves one row more.
use Rattle.std.proofs.Common.{◌≡◌, ℕ, List, [], ◌∷◌, ◌++◌, Option, Some, None, refl, ap, sym, ◌∙◌, subst, IfSome}
use Rattle.std.specs.Prelude.{option_and_then}
use Rattle.std.proofs.lemmas.Bool.{eq-eqb}
use Rattle.cv_protocol.specs.declared.event.Entry.{Entry}
use Rattle.cv_protocol.specs.declared.event.Event.{Event}
use Rattle.cv_protocol.specs.declared.event.Sent.{Sent}
use Rattle.cv_protocol.specs.NodeState.{NodeState}
use Rattle.cv_protocol.specs.NodeRow.{row, stamp_of}
use Rattle.cv_protocol.specs.Rows.{Did}
use Rattle.cv_protocol.specs.Laws.{Rises}
use Rattle.cv_protocol.specs.Journals.{did_if, did_at, next_of, replay}
use Rattle.cv_protocol.proofs.Causes.{stamps_rise}
use Rattle.cv_state.specs.Steps.{LeadsTo}
use Rattle.cv_node.specs.Journalled.{IsReplay, entry_of_row}

and_then_some : (o : Option NodeState) → option_and_then (λ n. Some n) o ≡ o
and_then_some None = refl
and_then_some (Some n) = refl

more_after : (t : NodeState) (es : List Entry) (e : Entry) → ((n : NodeState) → replay n es ≡ Some t → replay n (es ++ e ∷ []) ≡ next_of (did_at t e)) → (o : Option NodeState) → option_and_then (λ n. replay n es) o ≡ Some t → option_and_then (λ n. replay n (es ++ e ∷ [])) o ≡ next_of (did_at t e)
more_after t es e below None h = absurd (cc)
more_after t es e below (Some n) h = below n h

pub replay_more : (es : List Entry) (s t : NodeState) (e : Entry) → replay s es ≡ Some t → replay s (es ++ e ∷ []) ≡ next_of (did_at t e)
replay_more [] s t e is =
    let same : s ≡ t = cc in
    subst (λ (x : NodeState). replay s (e ∷ []) ≡ next_of (did_at x e)) same (and_then_some (next_of (did_at s e)))
replay_more (x ∷ es) s t e is = more_after t es e (λ n h. replay_more es n t e h) (next_of (did_at s x)) is

stamp_left : (s : NodeState) (event : Event) (r : Option Did) (next : NodeState) (sent : Sent) → IfSome r (Rises s event) → LeadsTo r next sent → next.stamp ≡ stamp_of s event
stamp_left s event None next sent rises h = absurd h
stamp_left s event (Some d) next sent rises h = ap (λ (t : NodeState). t.stamp) h.0 ∙ rises.0

-- the row leaves the node with the stamp of its entry
pub stamped : (s : NodeState) (event : Event) (next : NodeState) (sent : Sent) → LeadsTo (row s event) next sent → next.stamp ≡ stamp_of s event
stamped s event next sent leads = stamp_left s event (row s event) next sent (stamps_rise s event) leads

leads_on : (r : Option Did) (next : NodeState) (sent : Sent) → LeadsTo r next sent → next_of r ≡ Some next
leads_on None next sent h = absurd h
leads_on (Some d) next sent h = ap Some (sym h.0)

did_entry : (s : NodeState) (event : Event) (next : NodeState) (sent : Sent) → LeadsTo (row s event) next sent → next_of (did_at s (entry_of_row s event)) ≡ Some next
did_entry s event next sent leads =
    ap (λ b. next_of (did_if b (row s event))) (eq-eqb (stamp_of s event) (stamp_of s event) refl) ∙ leads_on (row s event) next sent leads

-- the journal with the entry of a row leaves what the row leaves
pub replays_step : (base s next : NodeState) (es : List Entry) (event : Event) (sent : Sent) → IsReplay base s es → LeadsTo (row s event) next sent → IsReplay base next (es ++ record { stamp = next.stamp; event = event } ∷ [])
replays_step base s next es event sent kept leads =
    let stamp = stamped s event next sent leads in
    let done : replay base (es ++ entry_of_row s event ∷ []) ≡ Some next = replay_more es base s (entry_of_row s event) kept.replays ∙ did_entry s event next sent leads in
    record { replays = subst (λ (t : ℕ). replay base (es ++ record { stamp = t; event = event } ∷ []) ≡ Some next) (sym stamp) done }

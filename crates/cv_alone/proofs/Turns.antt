-- Turn by turn a run goes on; a turn that changes nothing leaves the network quiet.
use Rattle.std.proofs.Common.{◌≡◌, ℕ, ◌<◌, ◌≤◌, ◌+◌, length, Option, None, Some, refl, subst, arith}
use Rattle.cv_protocol.specs.declared.event.Event.TheVariants as event
use Rattle.cv_protocol.specs.declared.event.Sent.TheVariants as sent
use Rattle.cv_protocol.specs.NodeState.{NodeState}
use Rattle.cv_protocol.specs.NodeRow.{row}
use Rattle.cv_node.specs.Counts.{journal_length}
use Rattle.cv_node.specs.Journalled.{IsReplay, Journalled, MakesStep}
use Rattle.cv_alone.specs.Going.{EndsInFiring, GoesOn, is_own, is_prompt}
use Rattle.cv_alone.specs.Resting.{AllWait, IsAtRest, Quiet, conn_id}
use Rattle.cv_alone.specs.Turns.{Turns}
use Rattle.cv_alone.proofs.Patience.{goes_own, prompt_patient, tick_patient}
use Rattle.cv_alone.proofs.Sweeps.{goes_on_entry, goes_on_step, longer_by_entry}

pub quiet : (s : NodeState) (actors connections : ℕ) (due : Option ℕ) → due ≡ None → ((k : ℕ) → k < connections → row s (event.Pass (conn_id k)) ≡ None) → AllWait s actors due → Quiet s actors connections
quiet s actors connections due is none waits = record {
  rest = λ place low. let w = waits place low in record { lacks = w.lacks; waits = w.waits; untimed = w.untimed is };
  none_passes = none;
}

pub at_rest : (s : NodeState) (actors connections : ℕ) (due : Option ℕ) → ((k : ℕ) → k < connections → row s (event.Pass (conn_id k)) ≡ None) → AllWait s actors due → IsAtRest s actors connections
at_rest s actors connections due none waits = record {
  wait = λ place low. let w = waits place low in (w.lacks, w.waits);
  none_passes = none;
}

-- something happened at this moment
pub changes : (a b c : Journalled) (actors connections most fired : ℕ) → GoesOn is_prompt a b 0 → GoesOn is_prompt b c fired → fired ≤ most → length a.entries < length c.entries → (fired ≡ most → EndsInFiring c.entries) → Turns a actors connections most (Some fired) c
changes a b c actors connections most fired passes polls few longer ends =
    let count : 0 + fired ≡ fired = omega arith in
    let all = subst (GoesOn is_prompt a c) count (goes_on_step is_prompt a b c 0 fired passes polls) in
    (few, goes_own a c fired all, longer, prompt_patient actors connections a c fired all, ends)

-- time goes on
pub ticks : (a b : Journalled) (actors connections most moment : ℕ) → 0 < most → MakesStep a (event.Tick moment) sent.Nothing b → length a.entries < journal_length → IsReplay a.base a.state a.entries → IsAtRest a.state actors connections → Turns a actors connections most (Some 0) b
ticks a b actors connections most moment some steps few kept rest = (
  omega arith,
  goes_on_entry is_own a b (event.Tick moment) sent.Nothing steps refl few,
  omega (arith, longer_by_entry a b (event.Tick moment) sent.Nothing steps),
  tick_patient actors connections a b moment kept steps rest,
  λ spent. absurd (omega (arith, some, spent)),
)

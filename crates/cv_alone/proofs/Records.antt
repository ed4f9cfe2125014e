-- What a run of one node leaves: its journal, and the record of that alone.
use Rattle.std.proofs.Common.{◌≡◌, ℕ, ◌<◌, ◌==◌, if◌then◌else◌, List, [], ◌∷◌, ◌++◌, length, Some, Ok, Result, refl, ap, sym, ◌∙◌, subst, codes}
use Rattle.std.specs.declared.alloc.AllocError.{AllocError}
use Rattle.cv_kinds.specs.Net.{Net}
use Rattle.cv_rules.specs.declared.attrs.NodeSpec.{NodeSpec}
use Rattle.cv_protocol.specs.declared.event.Entry.{Entry}
use Rattle.cv_protocol.specs.declared.event.Event.TheVariants as event
use Rattle.cv_protocol.specs.declared.event.Journal.{Journal}
use Rattle.cv_protocol.specs.declared.event.Record.{Record}
use Rattle.cv_protocol.specs.NodeState.{NodeState, opening}
use Rattle.cv_protocol.specs.Journals.{replay, IsRecordOf}
use Rattle.cv_node.specs.Journalled.{Journalled, IsReplay}
use Rattle.cv_merge.specs.Lanes.{journal_at}
use Rattle.cv_alone.specs.declared.alone.RunEnd.{RunEnd}
use Rattle.cv_alone.specs.declared.alone.RunEnd.TheVariants.{Spent, Quiescent}
use Rattle.cv_alone.specs.Going.{EndsInFiring, GoesOn, is_own}
use Rattle.cv_alone.specs.Recorded.{EndIsRight, IsOneNodeRun, first_entry, first_spec, only_first}
use Rattle.cv_alone.specs.Resting.{IsPatient, Quiet}
use Rattle.cv_alone.specs.Turns.{StaysPatient}
use Rattle.cv_alone.proofs.Patience.{deployed_patient}

-- the end of a run, whichever it is
pub record Ended (net : Net) (most : ℕ) (stop : RunEnd) (old new : Journalled) : Type 0 where
  pub fired : ℕ
  pub goes_on : GoesOn is_own old new fired
  pub patient : StaysPatient (length net.actors) (length net.connections) old new
  pub right : EndIsRight net most stop fired new.state

abbrev pub stopped : RunEnd → Result RunEnd AllocError
stopped s = Ok s

abbrev pub Stopped : RunEnd → RunEnd → Type 0
Stopped stop other = stopped stop ≡ stopped other

sized_patience : (net : Net) (actors connections : ℕ) (old new : Journalled) → actors ≡ length net.actors → connections ≡ length net.connections → StaysPatient actors connections old new → StaysPatient (length net.actors) (length net.connections) old new
sized_patience net actors connections old new a c patient =
    subst (λ (n : ℕ). StaysPatient (length net.actors) n old new) c (subst (λ (n : ℕ). StaysPatient n connections old new) a patient)

pub ended : (net : Net) (most actors connections : ℕ) (stop : RunEnd) (old new : Journalled) → actors ≡ length net.actors → connections ≡ length net.connections → (Stopped stop Spent → GoesOn is_own old new most) → (Stopped stop Quiescent → (fired : ℕ) × (fired < most) × GoesOn is_own old new fired) → (Stopped stop Quiescent → Quiet new.state actors connections) → StaysPatient actors connections old new → Ended net most stop old new
ended net most actors connections Spent old new a c spent quiescent quiet patient = record { fired = most; goes_on = spent refl; patient = sized_patience net actors connections old new a c patient; right = refl }
ended net most actors connections Quiescent old new a c spent quiescent quiet patient =
    let q = quiescent refl in
    let sized = subst (λ (n : ℕ). Quiet new.state (length net.actors) n) c (subst (λ (n : ℕ). Quiet new.state n connections) a (quiet refl)) in
    record { fired = q.0; goes_on = q.2; patient = sized_patience net actors connections old new a c patient; right = (q.1, sized) }

same_parts : (f g : ℕ → List Entry) (m : Record) → ((i : ℕ) → f i ≡ g i) → IsRecordOf f m.entries → IsRecordOf g m.entries
same_parts f g m same is = record { parts = λ i. is.parts i ∙ same i; next_is_least = is.next_is_least }

-- what the journal and the record say of the run
pub recorded : (net : Net) (most : ℕ) (stop : RunEnd) (m : Record) (first now : Journalled) (j : Journal) → first.entries ≡ first_entry net ∷ [] → first.base ≡ opening first_spec → Ended net most stop first now → j.entries.items ≡ now.entries → j.spec ≡ now.base.spec → IsReplay now.base now.state now.entries → m.specs ≡ j.spec ∷ [] → IsRecordOf (journal_at (j ∷ [])) m.entries → (Stopped stop Spent → 0 < most → EndsInFiring now.entries) → IsOneNodeRun net most stop m
recorded net most stop m first now j begins based e items spec kept specs is spends =
    let base : now.base ≡ opening first_spec = e.goes_on.based ∙ based in
    let own_spec : j.spec ≡ first_spec = spec ∙ ap (λ (s : NodeState). s.spec) base in
    let entries : now.entries ≡ first_entry net ∷ e.goes_on.more = e.goes_on.appends ∙ ap (λ (es : List Entry). es ++ e.goes_on.more) begins in
    let parts : (i : ℕ) → journal_at (j ∷ []) i ≡ only_first (first_entry net ∷ e.goes_on.more) i = λ i.
    ap (λ (s : NodeSpec). if s.no == i then j.entries.items else []) own_spec ∙ ap (λ (es : List Entry). if 1 == i then es else []) (items ∙ entries) in
    let begun : IsPatient (length net.actors) (length net.connections) first.base first.entries =
    subst (λ (es : List Entry). IsPatient (length net.actors) (length net.connections) first.base es) (sym begins) (deployed_patient (length net.actors) (length net.connections) first.base 1 (event.Deploy (codes "run") net) (λ now is. absurd (cc))) in
    record {
      more = e.goes_on.more;
      state = now.state;
      one_spec = specs ∙ ap (λ (s : NodeSpec). s ∷ []) own_spec;
      recorded = same_parts (journal_at (j ∷ [])) (only_first (first_entry net ∷ e.goes_on.more)) m parts is;
      local_run = subst (λ (es : List Entry). replay (opening first_spec) es ≡ Some now.state) entries (subst (λ (b : NodeState). replay b now.entries ≡ Some now.state) base kept.replays);
      own = e.goes_on.own;
      patient = subst (λ (es : List Entry). IsPatient (length net.actors) (length net.connections) (opening first_spec) es) entries (subst (λ (b : NodeState). IsPatient (length net.actors) (length net.connections) b now.entries) base (e.patient begun));
      ends = subst (λ (n : ℕ). EndIsRight net most stop n now.state) (sym e.goes_on.firings) e.right;
      spends = λ same some. subst EndsInFiring entries (spends (ap stopped same) some);
    }

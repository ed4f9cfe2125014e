-- What a step of a node answers, in the words of the node table.
use Rattle.std.specs.Prelude.{◌≡◌, ◌⊎◌, true, List, [], ◌∷◌, Option, Some, None, refl}
use Rattle.std.specs.Coded.{Coded, code_by, coded×, coded_list}
use Rattle.cv_protocol.specs.declared.event.Entry.{Entry}
use Rattle.cv_protocol.specs.contracts.event.Entry as entry
use Rattle.cv_protocol.specs.declared.event.Sent.{Sent}
use Rattle.cv_protocol.specs.declared.event.Sent.TheVariants as sent
use Rattle.cv_protocol.specs.declared.frame.Frame.{Frame}
use Rattle.cv_protocol.specs.declared.refusal.StepRefusal.{StepRefusal}
use Rattle.cv_protocol.specs.declared.refusal.StepRefusal.TheVariants as refusal
use Rattle.cv_protocol.specs.NodeState.{NodeState, node_code}
use Rattle.cv_protocol.specs.Rows.{Did}

-- the frames that were sent, in order
abbrev pub frames_of : Sent → List Frame
frames_of sent.Nothing = []
frames_of (sent.One f) = f ∷ []
frames_of (sent.All fs) = fs

-- the row leaves this state and sends these frames
abbrev pub LeadsTo : Option Did → NodeState → Sent → Type 0
LeadsTo None next sent = ⊥
LeadsTo (Some d) next sent = (next ≡ d.next) × (frames_of sent ≡ d.sends)

-- memory was wanting, or this is the cause
abbrev pub Refuses : Option StepRefusal → StepRefusal → Type 0
Refuses cause told = (told ≡ refusal.OutOfMemory) ⊎ (cause ≡ Some told)

-- what a frame did: this is the state, these frames are sent, and its numbers are below the limit
abbrev pub Does : Did → NodeState → Sent → Type 0
Does d next sent = (next ≡ d.next) × (frames_of sent ≡ d.sends) × (d.fits ≡ true)

-- a node as its callers see it: its state, and the entries of its journal
pub record Journalled : Type 0 where
  pub state : NodeState
  pub entries : List Entry

abbrev pub journalled_code : Coded Journalled
journalled_code =
    code_by (NodeState × List Entry) (coded× node_code (coded_list entry.the_row.coded)) (λ j. (j.state, j.entries)) (λ p. record { state = p.0; entries = p.1 }) (λ _. refl)

-- The record of local runs: it is sorted, and what came was sent before.
use Rattle.std.specs.Prelude.{◌≡◌, ℕ, List, [], ◌∷◌, ◌++◌, Some}
use Rattle.cv_protocol.specs.declared.event.Entry.{Entry}
use Rattle.cv_protocol.specs.declared.event.Step.{Step}
use Rattle.cv_protocol.specs.declared.frame.Frame.{Frame}
use Rattle.cv_protocol.specs.NodeState.{NodeState}
use Rattle.cv_protocol.specs.Journals.{IsBefore, IsLocalRun, IsRecordOf, Sends, FramesWereSent, got_frame}

-- the step comes before each of these, by stamp and then by node
abbrev pub IsBeforeAll : Step → List Step → Type 0
IsBeforeAll s [] = Unit {0}
IsBeforeAll s (t ∷ ts) = IsBefore s.stamp s.node t.stamp t.node × IsBeforeAll s ts

abbrev pub IsSorted : List Step → Type 0
IsSorted [] = Unit {0}
IsSorted (s ∷ ss) = IsBeforeAll s ss × IsSorted ss

-- each journal is a run of its node from its opening state
abbrev pub AreLocalRuns : (ℕ → NodeState) → (ℕ → List Entry) → Type 0
AreLocalRuns openings journals = (i : ℕ) → IsLocalRun (openings i) (journals i)

-- the record of local runs is sorted
abbrev pub RecordIsSorted : Type 0
RecordIsSorted =
    (openings : ℕ → NodeState) (journals : ℕ → List Entry) (m : List Step) → AreLocalRuns openings journals → IsRecordOf journals m → IsSorted m

-- an entry of the sender's journal, at the frame's stamp, sends that very frame
pub record IsSentIn (openings : ℕ → NodeState) (journals : ℕ → List Entry) (f : Frame) : Type 0 where
  pub before : List Entry
  pub entry : Entry
  pub after : List Entry
  pub stands : journals f.from ≡ before ++ entry ∷ after
  pub stamped : entry.stamp ≡ f.stamp
  pub sends : Sends (openings f.from) before entry f

-- each frame that an entry got is sent in the journal of its sender, wherever
abbrev pub GotOnlySent : (ℕ → NodeState) → (ℕ → List Entry) → Type 0
GotOnlySent openings journals =
    (i : ℕ) (before after : List Entry) (e : Entry) (f : Frame) → journals i ≡ before ++ e ∷ after → got_frame e.event ≡ Some f → IsSentIn openings journals f

-- so in the record each frame that came was sent by an earlier step: stamps alone order the two
abbrev pub SentBefore : Type 0
SentBefore =
    (openings : ℕ → NodeState) (journals : ℕ → List Entry) (m : List Step) → AreLocalRuns openings journals → GotOnlySent openings journals → IsRecordOf journals m → FramesWereSent openings m

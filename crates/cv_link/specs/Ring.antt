-- The two ends of a ring, as callers see them.
use Rattle.std.specs.Prelude.{ℕ, ◌≡◌, ◌+◌, ◌-◌, List, [], length}
use Rattle.rtrb.specs.Ring.{sent, known_free, received, known_items, IsPair, SameProducer, SameConsumer}
use Rattle.cv_protocol.specs.declared.frame.Frame.{Frame}
use Rattle.cv_link.specs.declared.ring.Tx.{Tx}
use Rattle.cv_link.specs.declared.ring.Rx.{Rx}
use Rattle.cv_link.specs.Plan.{PlanView}

-- How many frames a ring holds.
abbrev pub ring_length : ℕ
ring_length = 64

-- The frames that were ever pushed, the oldest first.
abbrev pub pushed : Tx → List Frame
pushed tx = sent tx.ring

-- How many of them the pushing end knows to be taken.
abbrev pub known_taken : Tx → ℕ
known_taken tx = length (pushed tx) + known_free tx.ring - ring_length

-- The frames that were ever taken from the ring, the oldest first.
abbrev pub taken : Rx → List Frame
taken rx = received rx.ring

-- The frames that the taking end knows to be in the ring, the oldest first.
abbrev pub known : Rx → List Frame
known rx = known_items rx.ring

-- The plan by which the next frame is judged.
abbrev pub plan : Rx → PlanView
plan rx = rx.plan

-- They are the two ends of one ring.
abbrev pub AreEnds : Tx → Rx → Type 0
AreEnds tx rx = IsPair tx.ring rx.ring

-- The same end of the same ring, later.
pub record SameTx (old new : Tx) : Type 0 where
  pub ring : SameProducer old.ring new.ring

pub record SameRx (old new : Rx) : Type 0 where
  pub ring : SameConsumer old.ring new.ring

-- Nothing was taken, nothing is known to be there, and no frame was counted.
pub record IsStill (old new : Rx) : Type 0 where
  pub taken : taken new ≡ taken old
  pub known : known new ≡ []
  pub plan : plan new ≡ plan old

-- Two ends stay ends of one ring, whatever is done at each of them.
abbrev pub EndsStay : Type 0
EndsStay = (tx tx' : Tx) (rx rx' : Rx) → AreEnds tx rx → SameTx tx tx' → SameRx rx rx' → AreEnds tx' rx'

abbrev pub TxStays : Type 0
TxStays = (a b c : Tx) → SameTx a b → SameTx b c → SameTx a c

abbrev pub RxStays : Type 0
RxStays = (a b c : Rx) → SameRx a b → SameRx b c → SameRx a c

-- What holds of a judgement on the front of a stream, by its kind.
use Rattle.std.specs.Prelude.{ℕ, ⊤}
use Rattle.cv_feed.specs.declared.format.Judged.{Judged}
use Rattle.cv_feed.specs.declared.format.Judged.TheVariants.{Message, Fault, Need}

-- P of the message and the number of its bytes, if there is one
abbrev pub ForMessage : {M F : Type 0} → Judged M F → (M → ℕ → Type 0) → Type 0
ForMessage (Message m n) P = P m n
ForMessage (Fault f) P = ⊤
ForMessage (Need n) P = ⊤

-- P of the fault, if there is one
abbrev pub ForFault : {M F : Type 0} → Judged M F → (F → Type 0) → Type 0
ForFault (Message m n) P = ⊤
ForFault (Fault f) P = P f
ForFault (Need n) P = ⊤

-- P of the number of bytes that are needed, if that is the answer
abbrev pub ForNeed : {M F : Type 0} → Judged M F → (ℕ → Type 0) → Type 0
ForNeed (Message m n) P = ⊤
ForNeed (Fault f) P = ⊤
ForNeed (Need n) P = P n

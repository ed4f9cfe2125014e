-- What a feed of frames holds, and how it tells a fault.
use Rattle.std.specs.Prelude.{ℕ, List, Option}
use Rattle.cv_protocol.specs.declared.frame.Frame.{Frame}
use Rattle.cv_frame.specs.declared.fault.FrameFault.{FrameFault}
use Rattle.cv_frame.specs.declared.fault.FrameFault.TheVariants as fault
use Rattle.cv_frame.specs.declared.flaw.Flaw.{Flaw}
use Rattle.cv_frame.specs.declared.flaw.Flaw.TheVariants as flaw

-- the frames that were read and not taken, what has come of the next one, the fault that stands there, and how many bytes of the
-- stream came before it, counted up to 2^64 - 1
pub record State : Type 0 where
  pub waiting : List Frame
  pub rest : List ℕ
  pub fault : Option Flaw
  pub begun : ℕ

-- the fault that is told of what begins at a byte of the stream
abbrev pub fault_at : ℕ → Flaw → FrameFault
fault_at begun flaw.FrameTooLong = fault.FrameTooLong
fault_at begun flaw.StampTooFar = fault.StampTooFar
fault_at begun flaw.BadFrame = fault.BadFrame begun

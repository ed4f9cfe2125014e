-- What bytes are read as.
use Rattle.std.specs.Prelude.{◌≡◌, ℕ, List, Result, Ok, Err}
use Rattle.cv_kinds.specs.Net.{Net}
use Rattle.cv_kinds.specs.WellFormed.{IsWellFormed}
use Rattle.cv_network.specs.declared.fault.NetFault.{NetFault}
use Rattle.cv_network.specs.declared.fault.NetFault.TheVariants as fault
use Rattle.cv_network.specs.Written.{network_spelling}

-- the bytes are the text of that network
pub record IsTextOf (bytes : List ℕ) (net : Net) : Type 0 where
  pub whole : IsWellFormed net
  pub text : bytes ≡ network_spelling net

-- the network whose text the bytes are, or BadNetwork where they are the text of none; want of memory comes in place of either
abbrev pub IsRead : List ℕ → Result Net NetFault → Type 0
IsRead bytes (Ok net) = IsTextOf bytes net
IsRead bytes (Err fault.BadNetwork) = (net : Net) → IsTextOf bytes net → ⊥
IsRead bytes (Err fault.OutOfMemory) = Unit {0}

-- that network, unless memory is wanting
abbrev pub Gives : Net → Result Net NetFault → Type 0
Gives net (Ok found) = found ≡ net
Gives net (Err fault.BadNetwork) = ⊥
Gives net (Err fault.OutOfMemory) = Unit {0}

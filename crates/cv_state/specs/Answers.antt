-- What an outlook allows.
use Rattle.std.specs.Prelude.{ℕ, Bool, false, ◌==◌, if◌then◌else◌, Option, Some, None}
use Rattle.cv_actor.specs.declared.outlook.Outlook.{Outlook}
use Rattle.cv_actor.specs.declared.outlook.Outlook.TheVariants as outlook

-- how many tokens of that inport are to be read
abbrev pub read_of : ℕ → Outlook → Option ℕ
read_of port (outlook.Fires first) = None
read_of port (outlook.Reads held count) = if held == port then Some count else None
read_of port (outlook.Waits lacks) = None

-- whether that action fires
abbrev pub is_fire : ℕ → Outlook → Bool
is_fire action (outlook.Fires first) = first == action
is_fire action (outlook.Reads port count) = false
is_fire action (outlook.Waits lacks) = false

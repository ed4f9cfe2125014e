-- What a row at a node keeps.
use Rattle.std.specs.Prelude.{◌≡◌, ℕ, Some}
use Rattle.cv_protocol.specs.Rows.{Did}
use Rattle.cv_handover.specs.World.{World, after}
use Rattle.cv_handover.specs.Meaning.{Nets, Meaning, means}
use Rattle.cv_handover.specs.Agree.{History, Agree}

-- the row is a step of the meaning, and all holds after it, with some history
pub record Goes (n : Nets) (w : World) (m : Meaning) (i : ℕ) (d : Did) : Type 0 where
  pub meaning : Meaning
  pub history : History
  pub means_it : means n m i d.deed ≡ Some meaning
  pub agrees : Agree n (after w i d).nodes (after w i d).frames meaning history

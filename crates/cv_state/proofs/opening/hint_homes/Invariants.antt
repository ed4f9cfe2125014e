use Rattle.std.proofs.Common.{◌≡◌, drop}
use Rattle.std.specs.FinMap as map
use Rattle.cv_state.specs.Opening.{all_located}
use Rattle.cv_state.proofs.opening.hint_homes.Given as goal

abbrev pub invariant-loop-place : goal.invariant-loop-place
invariant-loop-place l = all_located l.app l.place (drop l.place l.at) l.hints.map ≡ all_located l.app 0 l.at map.empty

use Rattle.std.proofs.Common.{◌≡◌, drop}
use Rattle.std.specs.FinMap as map
use Rattle.cv_state.specs.Opening.{all_placed}
use Rattle.cv_state.proofs.opening.start_placed.Given as goal

abbrev pub invariant-loop-place : goal.invariant-loop-place
invariant-loop-place l =
    all_placed l.app l.net.connections l.no l.place (drop l.place l.net.actors) (drop l.place l.at) l.live.map ≡ all_placed l.app l.net.connections l.no 0 l.net.actors l.at map.empty

use Rattle.std.proofs.Common.{◌≡◌, None, drop}
use Rattle.std.specs.FinMap as map
use Rattle.cv_state.specs.Waking.{first_wake}
use Rattle.cv_state.proofs.state.State.next_due.Given as goal

abbrev pub invariant-loop-place : goal.invariant-loop-place
invariant-loop-place l = first_wake l.self.now l.found (drop l.place (map.entries l.self.live)) ≡ first_wake l.self.now None (map.entries l.self.live)

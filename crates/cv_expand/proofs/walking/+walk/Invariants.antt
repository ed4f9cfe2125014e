use Rattle.std.proofs.Common.{◌≡◌, ◌+◌, ◌*◌, ◌≤◌, drop}
use Rattle.cv_expand.specs.Walk.{body_events, walk, closed}
use Rattle.cv_expand.specs.Runs.{run}
use Rattle.cv_expand.proofs.walking.+walk.Given as goal

-- each component that goes in has one closed component less
abbrev pub decreases-walk_body : goal.decreases-walk_body
decreases-walk_body l = 4 * closed l.world.now.components l.spot.now.opened + 3

abbrev pub decreases-walk_statement : goal.decreases-walk_statement
decreases-walk_statement l = 4 * closed l.world.now.components l.spot.now.opened + 2

abbrev pub decreases-walk_declare : goal.decreases-walk_declare
decreases-walk_declare l = 4 * closed l.world.now.components l.spot.now.opened + 1

abbrev pub decreases-walk_instance : goal.decreases-walk_instance
decreases-walk_instance l = 4 * closed l.world.now.components l.spot.now.opened

-- what is left decides; there are no more constants than statements
abbrev pub invariant-walk_body-loop-statement : goal.invariant-walk_body-loop-statement
invariant-walk_body-loop-statement l = record {
  left : run l.flat (body_events (walk l.world) l.world l.spot l.seen (drop l.statement-index l.body)) ≡ run l.fn.flat (walk l.world l.spot l.body);
  few : l.seen.constants ≤ l.statement-index;
}

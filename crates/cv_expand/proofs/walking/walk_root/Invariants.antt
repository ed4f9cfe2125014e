use Rattle.std.proofs.Common.{◌≡◌, ◌≤◌, drop}
use Rattle.cv_expand.specs.Walk.{body_events, walk, root_spot}
use Rattle.cv_expand.specs.Heads.{statements_in}
use Rattle.cv_expand.specs.Runs.{run}
use Rattle.cv_expand.proofs.walking.walk_root.Given as goal

-- what is left decides; there are no more constants than items
abbrev pub invariant-loop-item : goal.invariant-loop-item
invariant-loop-item l = record {
  left : run l.flat (body_events (walk l.world) l.world root_spot l.seen (statements_in (drop l.item-index l.script))) ≡ run l.fn.flat (walk l.world root_spot (statements_in l.script));
  few : l.seen.constants ≤ l.item-index;
  root : l.spot ≡ root_spot;
}

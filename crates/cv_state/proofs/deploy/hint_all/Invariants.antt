use Rattle.std.proofs.Common.{◌≡◌, ◌+◌, ◌≤◌, drop, length}
use Rattle.cv_protocol.specs.Rows.{all_hinted}
use Rattle.cv_state.proofs.deploy.hint_all.Given as goal

abbrev pub invariant-loop-place : goal.invariant-loop-place
invariant-loop-place l = record {
  room : length l.actors ≤ l.hints.spare + l.place;
  whole : all_hinted l.app l.node l.place (drop l.place l.actors) l.hints.map ≡ all_hinted l.app l.node 0 l.actors l.fn.hints.map;
}

use Rattle.std.proofs.Common.{◌≡◌, ◌+◌, ◌≤◌, length}
use Rattle.cv_state.specs.Deploying.{all_settled}
use Rattle.cv_state.proofs.deploy.settle.Given as goal

abbrev pub invariant-loop-place : goal.invariant-loop-place
invariant-loop-place l = record {
  rest : length l.left.items + l.place ≡ length l.fn.lives.items;
  room : length l.fn.lives.items ≤ l.live.spare + l.place;
  whole : all_settled l.app l.place l.left.items l.live.map ≡ all_settled l.app 0 l.fn.lives.items l.fn.live.map;
}

use Rattle.std.proofs.Common.{ℕ, ◌+◌, ◌<◌, ◌≤◌, ◌==◌, not, length, arith}
use Rattle.std.specs.FinMap as map
use Rattle.cv_protocol.specs.declared.frame.Body.TheVariants as body
use Rattle.cv_protocol.specs.Rows.{frame_to}
use Rattle.cv_state.proofs.Destroys.{nodes_count}
use Rattle.cv_state.proofs.Keeps.{kept_next, kept_whole}
use Rattle.cv_state.proofs.state.State.farewells.Goals as goal

pub loop-place-preserved : goal.loop-place-preserved
loop-place-preserved c =
    let s = c.args.self.now in
    let within : c.loop-place.place < length (map.keys s.known.nodes) = omega (arith, nodes_count s) in
    kept_next (λ (node : ℕ). frame_to s (s.stamp + 1) node (body.Destroy c.args.app)) (λ (node : ℕ). not (node == s.spec.no)) (map.keys s.known.nodes) c.loop-place.place c.farewell.result c.loop-place.frames c.add.new.frames _ c.farewell.ensures c.in_ok-add.ensures within c.loop-place.invariant

pub returns : goal.returns
returns c =
    let s = c.args.self.now in
    let past : length (map.keys s.known.nodes) ≤ c.loop-place.place = omega (arith, nodes_count s) in
    kept_whole (λ (node : ℕ). frame_to s (s.stamp + 1) node (body.Destroy c.args.app)) (λ (node : ℕ). not (node == s.spec.no)) (map.keys s.known.nodes) c.loop-place.place c.loop-place.frames _ past c.loop-place.invariant

use Rattle.std.proofs.Common.{◌≡◌, ◌<◌, ◌++◌, ℕ, [], length, drop, slice_index_or}
use Rattle.cv_solo.specs.Touching.{touching, touching_from}
use Rattle.cv_solo.proofs.touching.places_by_actor.Given as goal

abbrev pub invariant-loop-place : goal.invariant-loop-place
invariant-loop-place l = record {
  by_actor : length l.places.items ≡ l.actors;
  so_far : (actor : ℕ) → actor < l.actors → slice_index_or l.places.items actor [] ++ touching_from l.place (drop l.place l.connections) actor ≡ touching l.connections actor;
}

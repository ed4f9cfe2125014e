use Rattle.std.proofs.Common.{take, drop}
use Rattle.cv_graph.specs.Checks.{actor_checks}
use Rattle.cv_graph.specs.Meaning.{AreSpecs}
use Rattle.std.specs.List.{AllByRecursion}
use Rattle.cv_expand.specs.Paths.{IsPath}
use Rattle.cv_kinds.specs.WellFormed.{IsSpec as IsSound}
use Rattle.cv_graph.proofs.Judging.{Left}
use Rattle.cv_graph.proofs.actors.actors_of.Given as goal

-- what is left decides
abbrev pub invariant-loop-actor : goal.invariant-loop-actor
invariant-loop-actor l = record {
  actors : AreSpecs (take l.actor-index l.actor-items) l.specs.items;
  sound : AllByRecursion IsSound l.specs.items;
  named : AllByRecursion (λ a. IsPath a.path) (take l.actor-index l.actor-items);
  left : Left l.parts (actor_checks l.parts.actors) (actor_checks (drop l.actor-index l.actor-items));
}

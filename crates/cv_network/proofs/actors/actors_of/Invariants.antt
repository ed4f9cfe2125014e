use Rattle.std.proofs.Common.{◌≡◌, List, map, take}
use Rattle.std.specs.List.{All}
use Rattle.cv_kinds.specs.declared.network.ActorSpec.{ActorSpec}
use Rattle.cv_kinds.specs.WellFormed.{IsSpec}
use Rattle.cv_network.specs.Written.{actor_token}
use Rattle.cv_network.proofs.actors.actors_of.Given as goal

-- of actors that have these trees the first ones
abbrev pub invariant-loop-item : goal.invariant-loop-item
invariant-loop-item l = (specs : List ActorSpec) → All IsSpec specs → l.items ≡ map actor_token specs → l.actors.items ≡ take l.item-index specs

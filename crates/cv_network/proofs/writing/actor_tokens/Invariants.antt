use Rattle.std.proofs.Common.{◌≡◌, map, take}
use Rattle.cv_network.specs.Written.{actor_token}
use Rattle.cv_network.proofs.writing.actor_tokens.Given as goal

-- what is written is what was passed
abbrev pub invariant-loop-actor : goal.invariant-loop-actor
invariant-loop-actor l = l.tokens ≡ map actor_token (take l.actor-index l.actors)

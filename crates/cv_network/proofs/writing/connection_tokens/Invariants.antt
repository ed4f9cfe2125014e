use Rattle.std.proofs.Common.{◌≡◌, map, take}
use Rattle.cv_network.specs.Written.{connection_token}
use Rattle.cv_network.proofs.writing.connection_tokens.Given as goal

-- what is written is what was passed
abbrev pub invariant-loop-connection : goal.invariant-loop-connection
invariant-loop-connection l = l.tokens ≡ map (connection_token l.actors) (take l.connection-index l.connections)

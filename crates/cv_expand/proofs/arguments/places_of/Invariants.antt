use Rattle.std.proofs.Common.{◌≡◌, take}
use Rattle.cv_expand.specs.Walk.{places_of}
use Rattle.cv_expand.proofs.arguments.places_of.Given as goal

-- what has been put is what has been passed
abbrev pub invariant-loop-name : goal.invariant-loop-name
invariant-loop-name l = l.places ≡ places_of (take l.name-index l.names)

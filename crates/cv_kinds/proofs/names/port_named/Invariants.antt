use Rattle.std.proofs.Common.{◌≡◌, drop, map}
use Rattle.cv_kinds.specs.Names.{place_from}
use Rattle.cv_kinds.proofs.names.port_named.Given as goal

abbrev pub invariant-loop-place : goal.invariant-loop-place
invariant-loop-place l = place_from l.place (map (λ text. text.now) (drop l.place l.names)) l.name ≡ place_from 0 (map (λ text. text.now) l.names) l.name

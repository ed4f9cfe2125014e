use Rattle.std.proofs.Common.{ℕ, ◌<◌}
use Rattle.cv_mesh.specs.Moving.{AreMeshed, Each, IsLooked, Looks}
use Rattle.cv_mesh.proofs.looking.look_from.Given as goal

-- the rings to those passed are looked at
abbrev pub invariant-loop-to : goal.invariant-loop-to
invariant-loop-to l = record {
  meshed : AreMeshed l.stations;
  looks : Each Looks l.fn.stations l.stations;
  looked : (j : ℕ) → j < l.to → IsLooked l.stations l.from j;
  kept : (i j : ℕ) → IsLooked l.fn.stations i j → IsLooked l.stations i j;
}

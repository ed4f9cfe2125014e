use Rattle.std.proofs.Common.{ℕ, ◌<◌}
use Rattle.cv_mesh.specs.Moving.{AreMeshed, Each, IsLooked, Looks}
use Rattle.cv_mesh.proofs.looking.look_all.Given as goal

-- the rings that lead from those passed are looked at
abbrev pub invariant-loop-from : goal.invariant-loop-from
invariant-loop-from l = record {
  meshed : AreMeshed l.stations;
  looks : Each Looks l.fn.stations l.stations;
  looked : (i j : ℕ) → i < l.from → IsLooked l.stations i j;
}

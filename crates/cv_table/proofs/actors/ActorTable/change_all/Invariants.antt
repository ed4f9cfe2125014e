use Rattle.std.proofs.Common.{◌≡◌}
use Rattle.indexmap.specs.IndexMap.{spare}
use Rattle.cv_table.proofs.Changes.{change_first}
use Rattle.cv_table.proofs.actors.ActorTable.change_all.Given as goal

abbrev pub invariant-loop-place : goal.invariant-loop-place
invariant-loop-place g l = record {
  entries : l.self-inside.inner.entries ≡ change_first (g.C.Change.changed l.change) l.place l.initial.self-inside.inner.entries;
  room : spare l.self-inside.inner ≡ spare l.initial.self-inside.inner;
}

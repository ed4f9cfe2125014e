use Rattle.std.proofs.Common.{◌≡◌, map}
use Rattle.cv_protocol.specs.declared.event.Journal.{Journal}
use Rattle.cv_merge.specs.Lanes.{lanes_of}
use Rattle.cv_merge.proofs.merging.open_all.Given as goal

-- those passed are opened
abbrev pub invariant-loop-journal : goal.invariant-loop-journal
invariant-loop-journal l = record {
  specs : l.specs ≡ map (λ (j : Journal). j.spec) l.yielded;
  sources : l.sources.items ≡ lanes_of l.yielded;
}

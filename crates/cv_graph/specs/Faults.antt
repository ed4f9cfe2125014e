-- What is answered: want of memory may come at any time.
use Rattle.std.specs.Prelude.{◌≡◌, List, Option, Some, None, Result, Ok, Err}
use Rattle.cv_expand.specs.declared.flat.Parts.{Parts}
use Rattle.cv_graph.specs.declared.fault.GraphFault.{GraphFault}
use Rattle.cv_graph.specs.declared.fault.GraphFault.TheVariants as faults
use Rattle.cv_graph.specs.Checks.{Check, AllHold, IsFirst}

abbrev pub Faulty : Parts → List Check → GraphFault → Type 0
Faulty parts cs faults.OutOfMemory = Unit {0}
Faulty parts cs (faults.NoKind at) = IsFirst parts cs (faults.NoKind at)
Faulty parts cs (faults.Fraction at) = IsFirst parts cs (faults.Fraction at)
Faulty parts cs (faults.BadArg at) = IsFirst parts cs (faults.BadArg at)
Faulty parts cs (faults.NoPort at) = IsFirst parts cs (faults.NoPort at)
Faulty parts cs (faults.FedTwice at) = IsFirst parts cs (faults.FedTwice at)
Faulty parts cs (faults.Unfed at) = IsFirst parts cs (faults.Unfed at)
Faulty parts cs (faults.BatchOverQueue at) = IsFirst parts cs (faults.BatchOverQueue at)

-- all checks hold, or the fault is that of the first which does not
abbrev pub Judges : {X : Type 0} → Parts → List Check → Result X GraphFault → Type 0
Judges parts cs (Ok x) = AllHold parts cs
Judges parts cs (Err fault) = Faulty parts cs fault

-- the fault is this one, where there is one
abbrev pub FailsAs : GraphFault → Option GraphFault → Type 0
FailsAs faults.OutOfMemory meant = Unit {0}
FailsAs (faults.NoKind at) meant = meant ≡ Some (faults.NoKind at)
FailsAs (faults.Fraction at) meant = meant ≡ Some (faults.Fraction at)
FailsAs (faults.BadArg at) meant = meant ≡ Some (faults.BadArg at)
FailsAs (faults.NoPort at) meant = meant ≡ Some (faults.NoPort at)
FailsAs (faults.FedTwice at) meant = meant ≡ Some (faults.FedTwice at)
FailsAs (faults.Unfed at) meant = meant ≡ Some (faults.Unfed at)
FailsAs (faults.BatchOverQueue at) meant = meant ≡ Some (faults.BatchOverQueue at)

abbrev pub Finds : {X : Type 0} → Option GraphFault → X → Result X GraphFault → Type 0
Finds meant x (Ok y) = (meant ≡ None) × (y ≡ x)
Finds meant x (Err fault) = FailsAs fault meant

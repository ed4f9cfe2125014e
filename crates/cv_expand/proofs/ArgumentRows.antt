-- The arguments of a declaration, one after another.
use Rattle.std.proofs.Common.{◌≡◌, ℕ, List, ◌∷◌, ◌++◌, Option, Result, Ok, refl, append_assoc}
use Rattle.cv_token.specs.declared.pairs.Pair.{Pair}
use Rattle.cv_syntax.specs.declared.tree.Arg.{Arg}
use Rattle.cv_expand.specs.declared.fault.ExpandFault.{ExpandFault}
use Rattle.cv_expand.specs.declared.flat.Argument.{Argument}
use Rattle.cv_expand.specs.declared.setting.World.{World}
use Rattle.cv_expand.specs.declared.setting.Spot.{Spot}
use Rattle.cv_expand.specs.Walk.{given_of, argument_with, arguments, argument_fault, argument_faults}
use Rattle.cv_expand.specs.Runs.{failure, FailsAs, unless}
use Rattle.cv_expand.proofs.Unless.{passed, stops}

pub next : (w : World) (s : Spot) (ps : Option (List (Pair ℕ))) (args rest : List Arg) (a : Arg) (items new : List Argument) (all : Result (List Argument) ExpandFault)
    → args ≡ a ∷ rest
    → unless (argument_faults w s ps args) (items ++ arguments w s args) ≡ all
    → unless (argument_fault w s ps a) (items ++ argument_with a (given_of w s a.value)) ≡ Ok new
    → unless (argument_faults w s ps rest) (new ++ arguments w s rest) ≡ all
next w s ps args rest a items new all split left here =
    let none = passed (argument_fault w s ps a) (items ++ argument_with a (given_of w s a.value)) new here in
    rw (← left, split, none.0, ← none.1, append_assoc) refl

pub stop : (w : World) (s : Spot) (ps : Option (List (Pair ℕ))) (args rest : List Arg) (a : Arg) (items : List Argument) (all : Result (List Argument) ExpandFault) (e : ExpandFault)
    → args ≡ a ∷ rest
    → unless (argument_faults w s ps args) (items ++ arguments w s args) ≡ all
    → FailsAs e (failure (unless (argument_fault w s ps a) (items ++ argument_with a (given_of w s a.value))))
    → FailsAs e (failure all)
stop w s ps args rest a items all e split left here =
    rw (← left, split) (stops e (argument_fault w s ps a) (argument_faults w s ps rest) _ _ here)

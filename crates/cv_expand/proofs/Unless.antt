-- What is answered where nothing is wrong, and the first fault where something is.
use Rattle.std.proofs.Common.{◌≡◌, ℕ, suc, ◌+◌, ◌<◌, List, [], ◌∷◌, ◌++◌, length, drop, get_or, Option, None, Ok, refl, sym, ap, drop-cons, add-one}
use Rattle.cv_expand.specs.declared.fault.ExpandFault.{ExpandFault}
use Rattle.cv_expand.specs.declared.fault.ExpandFault.TheVariants as faults
use Rattle.cv_expand.specs.Runs.{failure, FailsAs, unless}

-- the elements from i on are the one at i and those behind it
pub drop_read : {X : Type 0} (xs : List X) (i : ℕ) (x : X) → i < length xs → x ≡ get_or xs i x → drop i xs ≡ x ∷ drop (i + 1) xs
drop_read xs i x h e = rw (add-one, drop-cons xs i x) (ap (λ y. y ∷ drop (suc i) xs) (sym e))

-- where x is answered, nothing is wrong
pub passed : {X : Type 0} (fs : List ExpandFault) (x y : X) → unless fs x ≡ Ok y → (fs ≡ []) × (x ≡ y)
passed [] x y e = (refl, cc)
passed (f ∷ fs) x y e = cc

pub goes_past : {X Z : Type 0} (fs gs : List ExpandFault) (x y : X) (z : Z) → unless fs x ≡ Ok y → unless (fs ++ gs) z ≡ unless gs z
goes_past fs gs x y z e = rw (passed fs x y e).0 refl

-- no fault is none that was told
pub no_failure : {P : Type 0} (e : ExpandFault) → FailsAs e None → (e ≡ faults.OutOfMemory → P) → P
no_failure faults.OutOfMemory h k = k refl
no_failure (faults.NoComponent at) h k = cc
no_failure (faults.Recursion at) h k = cc
no_failure (faults.ArgCount at) h k = cc
no_failure (faults.NoArg at) h k = cc
no_failure (faults.DoubleName at) h k = cc
no_failure (faults.TooMany at) h k = cc

-- want of memory is told of everything
pub any : (e : ExpandFault) (meant : Option ExpandFault) → e ≡ faults.OutOfMemory → FailsAs e meant
any e meant is = rw is tt

-- the first fault of some is that of more
pub stops : {X Z : Type 0} (e : ExpandFault) (fs gs : List ExpandFault) (x : X) (z : Z) → FailsAs e (failure (unless fs x)) → FailsAs e (failure (unless (fs ++ gs) z))
stops e [] gs x z h = no_failure e h (any e (failure (unless gs z)))
stops e (f ∷ fs) gs x z h = h

-- What states of a kind are at the start, and stay.
use Rattle.std.specs.Prelude.{◌≡◌, ℕ, true, List, Option}
use Rattle.cv_token.specs.declared.token.Token.{Token}
use Rattle.cv_behave.specs.KindRow.{effect_of, guard_holds}
use Rattle.cv_behave.specs.Values.{all_fit, given_fit}
use Rattle.cv_kinds.specs.declared.kind.Kind.{Kind}
use Rattle.cv_kinds.specs.KindRow.{row_of}
use Rattle.cv_kinds.specs.Sorts.{are_args, is_state}

-- for arguments of the kind's row the start is a state of the kind
abbrev pub StartsInState : Kind → Type 0
StartsInState k = (args : List Token) → are_args k args ≡ true → is_state k args ((row_of k).start args) ≡ true

-- where the arguments are of the row, the state is one of the kind, the heads fit and the guard holds, the effect leaves a
-- state of the kind, and each token that it gives fits
abbrev pub KeepsState : Kind → Type 0
KeepsState k =
    (args state heads : List Token) (action : ℕ) (head : Option Token) → are_args k args ≡ true → is_state k args state ≡ true → all_fit heads ≡ true
    → guard_holds (row_of k) args state action head ≡ true
    → (is_state k args (effect_of (row_of k) args state action heads).state ≡ true) × (given_fit (effect_of (row_of k) args state action heads).out ≡ true)

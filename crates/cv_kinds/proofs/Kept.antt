-- States of each kind: at the start, and after each effect.
use Rattle.std.proofs.Common.{◌≡◌, ℕ, pos, true, false, List, [], ◌∷◌, refl, ap}
use Rattle.cv_token.specs.declared.token.Token.{Token}
use Rattle.cv_token.specs.declared.token.Token.TheVariants as token
use Rattle.cv_behave.specs.declared.behave.Effect.{Effect}
use Rattle.cv_behave.specs.Values.{all_fit, given_fit, has_fit, item_of, is_true, list_of, next_number, sum_of}
use Rattle.cv_behave.proofs.Actions.{Each, by_actions}
use Rattle.cv_behave.proofs.Fitting.{bool_fits, both, fallen_fits, fitted_fits, grown_fits, int_fits, item_fits, next_fits, null_fits, sum_fits}
use Rattle.cv_behave.proofs.Lists.{empty_fits}
use Rattle.cv_calc.specs.declared.kind.CalcKind.{CalcKind}
use Rattle.cv_calc.specs.declared.kind.CalcKind.TheVariants as calc
use Rattle.cv_calc.specs.Rows.{row_of as calc_row}
use Rattle.cv_calc.proofs.Fitting.{given_fits}
use Rattle.cv_flow.specs.declared.kind.FlowKind.{FlowKind}
use Rattle.cv_flow.specs.declared.kind.FlowKind.TheVariants as flow
use Rattle.cv_flow.specs.Rows.{row_of as flow_row}
use Rattle.cv_flow.specs.Values.{elements, taken_apart, without_first}
use Rattle.cv_flow.proofs.Fitting.{element_fits, elements_fit, first_fits, rest_fits, second_fits, taken_fits}
use Rattle.cv_kinds.specs.declared.kind.Kind.{Kind}
use Rattle.cv_kinds.specs.declared.kind.Kind.TheVariants as kind
use Rattle.cv_kinds.specs.declared.table.Slot.{Slot}
use Rattle.cv_kinds.specs.Kept.{KeepsState, StartsInState}
use Rattle.cv_kinds.specs.KindRow.{row_of}
use Rattle.cv_kinds.specs.Sorts.{are_arguments, are_slots}
use Rattle.cv_kinds.specs.Table.{calc_line, line_of, flow_line}
use Rattle.cv_kinds.proofs.Parts.{IsFirst, OfFirst, arg_0, arg_1, arg_2, args_fit, behind, one_slot, slot_0, slot_1, slots_fit, two_slots}
use Rattle.cv_kinds.proofs.Results.{count_is, fallen_count, fallen_left, first_place, first_round, int_is_next, is_list_List, next_is, next_place, next_round, sum_is}

zero_fits : has_fit (token.Int (pos 0)) ≡ true
zero_fits = int_fits (pos 0) refl

-- ---- at the start

-- what is known of arguments of a kind
record Known (k : FlowKind) (args : List Token) : Type 0 where
  arg : (i : ℕ) → has_fit (item_of args i) ≡ true
  arg_0 : OfFirst (flow_line k).params (item_of args 0)
  arg_1 : OfFirst (behind (flow_line k).params) (item_of args 1)
  arg_2 : OfFirst (behind (behind (flow_line k).params)) (item_of args 2)

known : (k : FlowKind) (args : List Token) → are_arguments (flow_line k).params args ≡ true → Known k args
known k args e = record {
  arg = λ i. item_fits args i (args_fit (flow_line k).params args e);
  arg_0 = arg_0 (flow_line k).params args e;
  arg_1 = arg_1 (flow_line k).params args e;
  arg_2 = arg_2 (flow_line k).params args e;
}

flow_starts : (k : FlowKind) (args : List Token) → Known k args → are_slots args (flow_line k).slots ((flow_row k).start args) ≡ true
flow_starts flow.Constant args b = one_slot _ _ (b.arg 1) b.arg_1
flow_starts flow.Counter args b = one_slot _ _ (b.arg 0) (int_is_next (item_of args 0) b.arg_0)
flow_starts flow.CountTimer args b = two_slots _ _ _ _ (b.arg 1) (int_is_next (item_of args 1) b.arg_1) (b.arg 2) b.arg_2
flow_starts flow.Sequence args b = one_slot _ _ zero_fits (first_place (item_of args 0) b.arg_0)
flow_starts flow.Delay args b = two_slots _ _ _ _ (bool_fits false) refl null_fits refl
flow_starts flow.Sum args b = one_slot _ _ zero_fits refl
flow_starts flow.Tally args b = one_slot _ _ zero_fits refl
flow_starts flow.Alternate2 args b = one_slot _ _ zero_fits refl
flow_starts flow.Alternate3 args b = one_slot _ _ zero_fits refl
flow_starts flow.Dealternate2 args b = one_slot _ _ zero_fits refl
flow_starts flow.Init args b = one_slot _ _ (bool_fits false) refl
flow_starts flow.Unbatch args b = one_slot _ _ empty_fits (is_list_List [])
flow_starts flow.Take args b = one_slot _ _ (b.arg 0) b.arg_0
flow_starts flow.Skip args b = one_slot _ _ (b.arg 0) b.arg_0
flow_starts flow.Every args b = one_slot _ _ zero_fits (first_round (item_of args 0) b.arg_0)
flow_starts flow.Valve args b = one_slot _ _ (bool_fits false) refl
flow_starts flow.Change args b = two_slots _ _ _ _ (bool_fits false) refl null_fits refl
flow_starts k args b = refl

-- the kinds of calculation have no slots
no_slots : (k : CalcKind) → (calc_line k).slots ≡ []
no_slots calc.Add = refl
no_slots k = refl

calc_holds : (k : CalcKind) (args : List Token) → are_slots args (calc_line k).slots [] ≡ true
calc_holds k args = ap (λ (ss : List Slot). are_slots args ss []) (no_slots k)

pub starts : (k : Kind) → StartsInState k
unfolding line_of row_of
starts (kind.Flow k) args a = flow_starts k args (known k args a)
starts (kind.Calc k) args a = calc_holds k args

-- ---- after an effect

-- what is known of arguments, state and heads where an action fires
record Before (k : FlowKind) (args state heads : List Token) : Type 0 where
  arg : (i : ℕ) → has_fit (item_of args i) ≡ true
  arg_0 : OfFirst (flow_line k).params (item_of args 0)
  slot : (i : ℕ) → has_fit (item_of state i) ≡ true
  slot_0 : IsFirst args (flow_line k).slots (item_of state 0)
  slot_1 : IsFirst args (behind (flow_line k).slots) (item_of state 1)
  head : (i : ℕ) → has_fit (item_of heads i) ≡ true

before : (k : FlowKind) (args state heads : List Token) → are_arguments (flow_line k).params args ≡ true → are_slots args (flow_line k).slots state ≡ true → all_fit heads ≡ true → Before k args state heads
before k args state heads a s h = let b = known k args a in record {
  arg = b.arg;
  arg_0 = b.arg_0;
  slot = λ i. item_fits state i (slots_fit args (flow_line k).slots state s);
  slot_0 = slot_0 args (flow_line k).slots state s;
  slot_1 = slot_1 args (flow_line k).slots state s;
  head = λ i. item_fits heads i h;
}

abbrev After : FlowKind → List Token → Effect → Type 0
After k args e = (are_slots args (flow_line k).slots e.state ≡ true) × (given_fit e.out ≡ true)

flow_keeps : (k : FlowKind) (args state heads : List Token) (head : Token) → Before k args state heads → Each (After k args) args state heads head (flow_row k).actions
flow_keeps flow.Constant args state heads head b = (λ g. (one_slot _ _ (fallen_fits (item_of state 0) (b.slot 0)) (fallen_left (item_of state 0) b.slot_0), both _ true (b.arg 0) refl), tt)
flow_keeps flow.Counter args state heads head b = (λ g. (one_slot _ _ (next_fits (item_of state 0)) (next_is (item_of state 0)), both _ true (b.slot 0) refl), tt)
flow_keeps flow.CountTimer args state heads head b = (λ g. (two_slots _ _ _ _ (next_fits (item_of state 0)) (next_is (item_of state 0)) (fallen_fits (item_of state 1) (b.slot 1)) (fallen_left (item_of state 1) b.slot_1), both _ true (b.slot 0) refl), tt)
flow_keeps flow.Identity args state heads head b = (λ g. (refl, both _ true (b.head 0) refl), tt)
flow_keeps flow.Sequence args state heads head b = (λ g. (one_slot _ _ (next_fits (item_of state 0)) (next_place (item_of state 0) (item_of args 0) (b.arg 0) b.slot_0 g), both _ true (element_fits (item_of state 0) (item_of args 0) (b.arg 0)) refl), tt)
flow_keeps flow.Trigger args state heads head b = (λ g. (refl, both _ true (b.arg 1) refl), tt)
flow_keeps flow.Delay args state heads head b = (λ g. (two_slots _ _ _ _ (bool_fits false) refl null_fits refl, both _ true (b.slot 1) refl), (λ g. (two_slots _ _ _ _ (bool_fits true) refl (b.head 0) refl, refl), tt))
flow_keeps flow.Sum args state heads head b = (λ g. (one_slot _ _ (grown_fits (sum_of (item_of state 0) (item_of heads 0)) (item_of state 0) (sum_fits (item_of state 0) (item_of heads 0)) (b.slot 0)) (sum_is (item_of state 0) (item_of heads 0) b.slot_0), both _ true (sum_fits (item_of state 0) (item_of heads 0)) refl), tt)
flow_keeps flow.Tally args state heads head b = (λ g. (one_slot _ _ (grown_fits (next_number (item_of state 0)) (item_of state 0) (next_fits (item_of state 0)) (b.slot 0)) (count_is (item_of state 0) b.slot_0), both _ true (next_fits (item_of state 0)) refl), tt)
flow_keeps flow.Print args state heads head b = (λ g. (refl, refl), tt)
flow_keeps flow.Terminator args state heads head b = (λ g. (refl, refl), tt)
flow_keeps flow.Init args state heads head b = (λ g. (one_slot _ _ (bool_fits true) refl, both _ true (b.arg 0) refl), (λ g. (one_slot _ _ (b.slot 0) b.slot_0, both _ true (b.head 0) refl), tt))
flow_keeps flow.Join args state heads head b = (λ g. (refl, both _ true (b.head 0) refl), (λ g. (refl, both _ true (b.head 0) refl), tt))
flow_keeps flow.Alternate2 args state heads head b = (λ g. (one_slot _ _ (int_fits (pos 1) refl) refl, both _ true (b.head 0) refl), (λ g. (one_slot _ _ (int_fits (pos 0) refl) refl, both _ true (b.head 0) refl), tt))
flow_keeps flow.Alternate3 args state heads head b = (λ g. (one_slot _ _ (int_fits (pos 1) refl) refl, both _ true (b.head 0) refl), (λ g. (one_slot _ _ (int_fits (pos 2) refl) refl, both _ true (b.head 0) refl), (λ g. (one_slot _ _ (int_fits (pos 0) refl) refl, both _ true (b.head 0) refl), tt)))
flow_keeps flow.Dealternate2 args state heads head b = (λ g. (one_slot _ _ (int_fits (pos 1) refl) refl, both _ true (b.head 0) refl), (λ g. (one_slot _ _ (int_fits (pos 0) refl) refl, both _ true (b.head 0) refl), tt))
flow_keeps flow.Select args state heads head b = (λ g. (refl, both _ true (b.head 1) refl), (λ g. (refl, both _ true (b.head 1) refl), tt))
flow_keeps flow.Switch args state heads head b = (λ g. (refl, both _ true (b.head 1) refl), (λ g. (refl, both _ true (b.head 1) refl), tt))
flow_keeps flow.Batch args state heads head b = (λ g. (refl, both _ true (fitted_fits (token.List heads)) refl), tt)
flow_keeps flow.Unbatch args state heads head b = (λ g. (one_slot _ _ (rest_fits (item_of state 0) (b.slot 0)) (is_list_List (without_first (elements (list_of (item_of state 0))))), both _ true (item_fits (elements (list_of (item_of state 0))) 0 (elements_fit (item_of state 0) (b.slot 0))) refl), (λ g. (one_slot _ _ (taken_fits (item_of heads 0) (b.head 0)) (is_list_List (taken_apart (item_of heads 0) (list_of (item_of heads 0)))), refl), tt))
flow_keeps flow.Take args state heads head b = (λ g. (one_slot _ _ (fallen_fits (item_of state 0) (b.slot 0)) (fallen_count (item_of state 0) b.slot_0), both _ true (b.head 0) refl), (λ g. (one_slot _ _ (b.slot 0) b.slot_0, refl), tt))
flow_keeps flow.Skip args state heads head b = (λ g. (one_slot _ _ (fallen_fits (item_of state 0) (b.slot 0)) (fallen_count (item_of state 0) b.slot_0), refl), (λ g. (one_slot _ _ (b.slot 0) b.slot_0, both _ true (b.head 0) refl), tt))
flow_keeps flow.Every args state heads head b = (λ g. (one_slot _ _ zero_fits (first_round (item_of args 0) b.arg_0), both _ true (b.head 0) refl), (λ g. (one_slot _ _ (next_fits (item_of state 0)) (next_round (item_of state 0) (item_of args 0) (b.arg 0) b.slot_0 g), refl), tt))
flow_keeps flow.Valve args state heads head b = (λ g. (one_slot _ _ (bool_fits (is_true (item_of heads 0))) refl, refl), (λ g. (one_slot _ _ (b.slot 0) b.slot_0, both _ true (b.head 0) refl), (λ g. (one_slot _ _ (b.slot 0) b.slot_0, refl), tt)))
flow_keeps flow.Zip args state heads head b = (λ g. (refl, both _ true (fitted_fits (token.List (item_of heads 0 ∷ item_of heads 1 ∷ []))) refl), tt)
flow_keeps flow.Unzip args state heads head b = (λ g. (refl, both _ _ (first_fits (item_of heads 0) (b.head 0)) (both _ true (second_fits (item_of heads 0) (b.head 0)) refl)), tt)
flow_keeps flow.Change args state heads head b = (λ g. (two_slots _ _ _ _ (bool_fits true) refl (b.head 0) refl, both _ true (b.head 0) refl), (λ g. (two_slots _ _ _ _ (b.slot 0) b.slot_0 (b.slot 1) b.slot_1, refl), tt))

pub keeps : (k : Kind) → KeepsState k
unfolding line_of row_of
keeps (kind.Flow k) args state heads action head a s h g = by_actions (After k args) (flow_row k) args state heads action head (flow_keeps k args state heads _ (before k args state heads a s h)) g
keeps (kind.Calc k) args state heads action head a s h g =
    by_actions (λ e. (are_slots args (calc_line k).slots e.state ≡ true) × (given_fit e.out ≡ true)) (calc_row k) args state heads action head
    (λ t. (calc_holds k args, both _ true (given_fits k (item_of args 0) (item_of heads 0) (item_of heads 1) (item_fits heads 0 h)) refl), tt) g

-- Of every kind but two at most one action is ready; of these two, two may be.
use Rattle.std.proofs.Common.{◌≡◌, ◌≢◌, ℕ, suc, zero, ℤ, pos, ◌+ℤ◌, true, false, List, [], ◌∷◌, ◌↔◌, refl, sym, ◌∙◌, subst, eqb-true, arith}
use Rattle.std.specs.Prelude.{IsTrue, int_lt, unwrap_or}
use Rattle.std.proofs.lemmas.Bool.{and_parts}
use Rattle.std.proofs.lemmas.Bool.Decides.{Decides-int_eq}
use Rattle.std.proofs.lemmas.Int.{ints}
use Rattle.cv_token.specs.declared.token.Token.{Token}
use Rattle.cv_token.specs.declared.token.Token.TheVariants as token
use Rattle.cv_behave.specs.KindRow.{Deterministic, first_of}
use Rattle.cv_behave.specs.Values.{is_number, is_true, item_of}
use Rattle.cv_behave.proofs.Ready.{one_alone, two_alone, three_alone, not_both, not_both_swapped}
use Rattle.cv_flow.specs.declared.kind.FlowKind.{FlowKind}
use Rattle.cv_flow.specs.declared.kind.FlowKind.TheVariants as kind
use Rattle.cv_flow.specs.Rows.{is_exclusive, row_of}
use Rattle.cv_flow.specs.Values.{is_positive, is_last, is_before_last, is_empty, is_repeated}

numbers_apart : (m n : ℕ) (t : Token) → (m ≡ n → ⊥) → is_number m t ≡ true → is_number n t ≡ true → ⊥
numbers_apart m n (token.Int (pos k)) apart d e = apart (sym (eqb-true k m d) ∙ eqb-true k n e)
numbers_apart m n _ apart d e = cc

zero_apart : (t : Token) → is_positive t ≡ true → is_number 0 t ≡ true → ⊥
zero_apart (token.Int (pos zero)) d e = cc
zero_apart (token.Int (pos (suc n))) d e = let h = eqb-true (suc n) 0 e in omega arith
zero_apart _ d e = cc

not_below_itself : (z : ℤ) → int_lt z z ≡ true → ⊥
not_below_itself z e = grind (arith, ints)

rounds_apart : (c n : Token) → is_last c n ≡ true → is_before_last c n ≡ true → ⊥
rounds_apart (token.Int c) (token.Int n) d e = not_below_itself n (subst (λ (z : ℤ). int_lt z n ≡ true) ((Decides-int_eq (c +ℤ pos 1) n).0 d) e)
rounds_apart _ _ d e = cc

-- the first token of the guard port, inport 0
abbrev headed : List (List Token) → Token
headed inputs = unwrap_or (first_of inputs 0) token.Null

pub at_most_one : (k : FlowKind) → k ≢ kind.Join → k ≢ kind.Valve → Deterministic (row_of k)
at_most_one kind.Delay a b args state inputs i j l d e = two_alone i j _ _ (not_both (is_true (item_of state 0))) (and_parts _ _ d).1 (and_parts _ _ e).1
at_most_one kind.Init a b args state inputs i j l d e = two_alone i j _ _ (not_both_swapped (is_true (item_of state 0))) (and_parts _ _ d).1 (and_parts _ _ e).1
at_most_one kind.Join a b args state inputs i j l d e = absurd (a refl)
at_most_one kind.Alternate2 a b args state inputs i j l d e = two_alone i j _ _ (numbers_apart 0 1 (item_of state 0) (λ q. omega arith)) (and_parts _ _ d).1 (and_parts _ _ e).1
at_most_one kind.Alternate3 a b args state inputs i j l d e =
    three_alone i j _ _ _ (numbers_apart 0 1 (item_of state 0) (λ q. omega arith)) (numbers_apart 0 2 (item_of state 0) (λ q. omega arith)) (numbers_apart 1 2 (item_of state 0) (λ q. omega arith)) (and_parts _ _ d).1 (and_parts _ _ e).1
at_most_one kind.Dealternate2 a b args state inputs i j l d e = two_alone i j _ _ (numbers_apart 0 1 (item_of state 0) (λ q. omega arith)) (and_parts _ _ d).1 (and_parts _ _ e).1
at_most_one kind.Select a b args state inputs i j l d e = two_alone i j _ _ (not_both (is_true (headed inputs))) (and_parts _ _ d).1 (and_parts _ _ e).1
at_most_one kind.Switch a b args state inputs i j l d e = two_alone i j _ _ (not_both (is_true (headed inputs))) (and_parts _ _ d).1 (and_parts _ _ e).1
at_most_one kind.Unbatch a b args state inputs i j l d e = two_alone i j _ _ (not_both_swapped (is_empty (item_of state 0))) (and_parts _ _ d).1 (and_parts _ _ e).1
at_most_one kind.Take a b args state inputs i j l d e = two_alone i j _ _ (zero_apart (item_of state 0)) (and_parts _ _ d).1 (and_parts _ _ e).1
at_most_one kind.Skip a b args state inputs i j l d e = two_alone i j _ _ (zero_apart (item_of state 0)) (and_parts _ _ d).1 (and_parts _ _ e).1
at_most_one kind.Every a b args state inputs i j l d e = two_alone i j _ _ (rounds_apart (item_of state 0) (item_of args 0)) (and_parts _ _ d).1 (and_parts _ _ e).1
at_most_one kind.Valve a b args state inputs i j l d e = absurd (b refl)
at_most_one kind.Change a b args state inputs i j l d e = two_alone i j _ _ (not_both_swapped (is_repeated state (headed inputs))) (and_parts _ _ d).1 (and_parts _ _ e).1
at_most_one k a b args state inputs i j l d e = one_alone i j _ (and_parts _ _ d).1 (and_parts _ _ e).1

-- one token in each of two inports
abbrev each_one : List (List Token)
each_one = (token.Null ∷ []) ∷ (token.Null ∷ []) ∷ []

zero_one : ◌≡◌ {A = ℕ} 0 1 → ⊥
zero_one e = omega arith

zero_two : ◌≡◌ {A = ℕ} 0 2 → ⊥
zero_two e = omega arith

pub not_Join : Deterministic (row_of kind.Join) → ⊥
not_Join f = zero_one (f [] [] each_one 0 1 refl refl refl)

pub not_Valve : Deterministic (row_of kind.Valve) → ⊥
not_Valve f = zero_two (f [] [] each_one 0 2 refl refl refl)

abbrev Is : FlowKind → Type 0
Is k = Deterministic (row_of k)

not_true : IsTrue false → ⊥
not_true t = cc

alone : (k : FlowKind) → k ≢ kind.Join → k ≢ kind.Valve → IsTrue true ↔ Is k
alone k a b = (λ t. at_most_one k a b, λ f. refl)

-- at most one action is ready of exactly the kinds that are marked so
pub right : (k : FlowKind) → IsTrue (is_exclusive k) ↔ Is k
right kind.Join = (λ t. absurd (not_true t), λ f. absurd (not_Join f))
right kind.Valve = (λ t. absurd (not_true t), λ f. absurd (not_Valve f))
right k = alone k (λ e. cc) (λ e. cc)

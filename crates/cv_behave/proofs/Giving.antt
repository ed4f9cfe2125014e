-- An action gives as many tokens as its row says.
use Rattle.std.proofs.Common.{◌≡◌, ◌≤◌, ◌<◌, ℕ, zero, suc, ◌==◌, Bool, true, false, ◌&&◌, if◌then◌else◌, List, [], ◌∷◌, length, Option, Some, None, nat_le, refl, subst, arith, leb-true}
use Rattle.std.proofs.lemmas.Bool.{and_parts}
use Rattle.cv_token.specs.declared.token.Token.{Token}
use Rattle.cv_behave.specs.KindRow.{Action, Row, action_count, count_at, effect_of, for_action, given, given_at, GivesItsTokens}

-- how many tokens each outport is given
abbrev pub counts_of : List (Option Token) → List ℕ
counts_of [] = []
counts_of (None ∷ out) = 0 ∷ counts_of out
counts_of (Some t ∷ out) = 1 ∷ counts_of out

given_counts : (out : List (Option Token)) (port : ℕ) → length (given_at out port) ≡ count_at port (counts_of out)
given_counts [] port = refl
given_counts (None ∷ out) zero = refl
given_counts (Some t ∷ out) zero = refl
given_counts (None ∷ out) (suc port) = given_counts out port
given_counts (Some t ∷ out) (suc port) = given_counts out port

abbrev HasCounts : ℕ → List ℕ → ℕ → List (Option Token) → Type 0
HasCounts places counts port out = (length out ≡ places) × (length (given_at out port) ≡ count_at port counts)

-- where the counts are those of the action
pub gives : (out : List (Option Token)) (port : ℕ) → HasCounts (length out) (counts_of out) port out
gives out port = (refl, given_counts out port)

-- of one action
abbrev pub At : Row → List Token → List Token → List Token → ℕ → ℕ → Type 0
At row args state heads port action = (length (effect_of row args state action heads).out ≡ row.outports) × (length (given_at (effect_of row args state action heads).out port) ≡ given row action port)

abbrev pub Each : Row → ℕ → Type 0
Each row action = (args state heads : List Token) (port : ℕ) → At row args state heads port action

below_one : (P : ℕ → Type 0) → P 0 → (i : ℕ) → i < 1 → P i
below_one P p zero l = p
below_one P p (suc i) l = absurd (omega arith)

below_two : (P : ℕ → Type 0) → P 0 → P 1 → (i : ℕ) → i < 2 → P i
below_two P p q zero l = p
below_two P p q (suc zero) l = q
below_two P p q (suc (suc i)) l = absurd (omega arith)

below_three : (P : ℕ → Type 0) → P 0 → P 1 → P 2 → (i : ℕ) → i < 3 → P i
below_three P p q r zero l = p
below_three P p q r (suc zero) l = q
below_three P p q r (suc (suc zero)) l = r
below_three P p q r (suc (suc (suc i))) l = absurd (omega arith)

pub one_gives : (row : Row) → action_count row ≡ 1 → Each row 0 → GivesItsTokens row
one_gives row e p args state heads i port l = below_one (At row args state heads port) (p args state heads port) i (subst (λ (n : ℕ). i < n) e l)

pub two_give : (row : Row) → action_count row ≡ 2 → Each row 0 → Each row 1 → GivesItsTokens row
two_give row e p q args state heads i port l = below_two (At row args state heads port) (p args state heads port) (q args state heads port) i (subst (λ (n : ℕ). i < n) e l)

pub three_give : (row : Row) → action_count row ≡ 3 → Each row 0 → Each row 1 → Each row 2 → GivesItsTokens row
three_give row e p q r args state heads i port l = below_three (At row args state heads port) (p args state heads port) (q args state heads port) (r args state heads port) i (subst (λ (n : ℕ). i < n) e l)

-- ---- none gives more than one

abbrev pub are_few : List ℕ → Bool
are_few [] = true
are_few (n ∷ ns) = nat_le n 1 && are_few ns

abbrev pub all_give_few : List Action → Bool
all_give_few [] = true
all_give_few (a ∷ more) = are_few a.gives && all_give_few more

few_at : (counts : List ℕ) (port : ℕ) → are_few counts ≡ true → count_at port counts ≤ 1
few_at [] port e = omega arith
few_at (n ∷ ns) zero e = leb-true n 1 (and_parts _ _ e).0
few_at (n ∷ ns) (suc port) e = few_at ns port (and_parts _ _ e).1

smaller : (b : Bool) (x y : ℕ) → x ≤ 1 → y ≤ 1 → (if b then x else y) ≤ 1
smaller true x y h g = h
smaller false x y h g = g

few_from : (i action port : ℕ) (actions : List Action) → all_give_few actions ≡ true → for_action i action (λ a. count_at port a.gives) 0 actions ≤ 1
few_from i action port [] e = omega arith
few_from i action port (a ∷ more) e =
    let h = and_parts _ _ e in
    smaller (action == i) (count_at port a.gives) (for_action (suc i) action (λ x. count_at port x.gives) 0 more) (few_at a.gives port h.0) (few_from (suc i) action port more h.1)

pub given_few : (row : Row) (action port : ℕ) → all_give_few row.actions ≡ true → given row action port ≤ 1
given_few row action port e = few_from 0 action port row.actions e

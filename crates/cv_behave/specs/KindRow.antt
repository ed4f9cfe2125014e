-- What a row of the table of kinds says, and what follows from it for any row.
use Rattle.std.specs.Prelude.{◌<◌, ◌≡◌, ℕ, suc, Bool, true, false, nat_le, ◌==◌, ◌&&◌, if◌then◌else◌, List, [], ◌∷◌, ◌++◌, length, take, slice_get, slice_index_or, Option, Some, None, unwrap_or, option_to_list}
use Rattle.cv_token.specs.declared.token.Token.{Token}
use Rattle.cv_token.specs.declared.token.Token.TheVariants as token
use Rattle.cv_behave.specs.declared.behave.Effect.{Effect}

-- an action of a row
pub record Action : Type 0 where
  -- how many tokens of each inport it needs, on the arguments
  pub needs : List Token → List ℕ
  -- how many tokens it gives to each outport: 0 or 1
  pub gives : List ℕ
  pub timed : Bool
  -- on the arguments, the state, and the first token of the guard port
  pub guard : List Token → List Token → Token → Bool
  -- on the arguments, the state, and the needed tokens, port by port
  pub effect : List Token → List Token → List Token → Effect

-- a row: its actions stand in order of priority
pub record Row : Type 0 where
  pub inports : ℕ
  pub outports : ℕ
  -- the inport at whose first token a guard looks
  pub guard_port : Option ℕ
  -- milliseconds between two firings of its timed action
  pub pause : List Token → ℕ
  -- the state at the start, on the arguments
  pub start : List Token → List Token
  pub actions : List Action

-- the state afterwards, and the token given to each outport
abbrev pub leaves : List Token → List (Option Token) → Effect
leaves state out = record { state = state; out = out }

-- f of the action of that number, the first one having number i; `none` where there is no such action
abbrev pub for_action : {X : Type 0} → ℕ → ℕ → (Action → X) → X → List Action → X
for_action i action f none [] = none
for_action i action f none (a ∷ more) = if action == i then f a else for_action (suc i) action f none more

-- the count of that port; 0 past the last one
abbrev pub count_at : ℕ → List ℕ → ℕ
count_at port counts = slice_index_or counts port 0

abbrev pub action_count : Row → ℕ
action_count row = length row.actions

abbrev pub needed : Row → List Token → ℕ → ℕ → ℕ
needed row args action port = for_action 0 action (λ a. count_at port (a.needs args)) 0 row.actions

abbrev pub given : Row → ℕ → ℕ → ℕ
given row action port = for_action 0 action (λ a. count_at port a.gives) 0 row.actions

abbrev pub is_timed : Row → ℕ → Bool
is_timed row action = for_action 0 action (λ a. a.timed) false row.actions

-- whether there is such an action and its guard holds; a head that is missing reads as null
abbrev pub guard_holds : Row → List Token → List Token → ℕ → Option Token → Bool
guard_holds row args state action head = for_action 0 action (λ a. a.guard args state (unwrap_or head token.Null)) false row.actions

-- what the action does; past the last action this is what the last one does
abbrev pub acting : ℕ → ℕ → List Token → List Token → List Token → List Action → Effect
acting i action args state heads [] = leaves state []
acting i action args state heads (a ∷ []) = a.effect args state heads
acting i action args state heads (a ∷ b ∷ more) = if action == i then a.effect args state heads else acting (suc i) action args state heads (b ∷ more)

abbrev pub effect_of : Row → List Token → List Token → ℕ → List Token → Effect
effect_of row args state action heads = acting 0 action args state heads row.actions

-- each needed inport has its count, for the inports from number `port` on
abbrev pub has_counts : Row → List Token → ℕ → ℕ → List (List Token) → Bool
has_counts row args action port [] = true
has_counts row args action port (q ∷ qs) = nat_le (needed row args action port) (length q) && has_counts row args action (suc port) qs

-- the needed tokens, port by port
abbrev pub heads_of : Row → List Token → ℕ → ℕ → List (List Token) → List Token
heads_of row args action port [] = []
heads_of row args action port (q ∷ qs) = take (needed row args action port) q ++ heads_of row args action (suc port) qs

-- the first token of an inport
abbrev pub first_of : List (List Token) → ℕ → Option Token
first_of inputs port = slice_get (unwrap_or (slice_get inputs port) []) 0

-- the first token of the guard port
abbrev pub head_at : Option ℕ → List (List Token) → Option Token
head_at None inputs = None
head_at (Some port) inputs = first_of inputs port

-- an action is ready on a state and input lists, one per inport, where each needed inport has its count and the guard
-- holds; space and time are not looked at
abbrev pub is_ready : Row → List Token → List Token → ℕ → List (List Token) → Bool
is_ready row args state action inputs = has_counts row args action 0 inputs && guard_holds row args state action (head_at row.guard_port inputs)

-- for no arguments, state and input lists two actions are ready
abbrev pub Deterministic : Row → Type 0
Deterministic row = (args state : List Token) (inputs : List (List Token)) (i j : ℕ) → length inputs ≡ row.inports → is_ready row args state i inputs ≡ true → is_ready row args state j inputs ≡ true → i ≡ j

-- each list of `more` is one of `inputs` with tokens put behind its end
abbrev pub Grown : List (List Token) → List (List Token) → Type 0
Grown [] [] = Unit {0}
Grown (q ∷ qs) (r ∷ rs) = ((end : List Token) × (r ≡ q ++ end)) × Grown qs rs
Grown _ _ = ⊥

-- an action that is ready stays ready when its inputs grow
abbrev pub StaysReady : Row → Type 0
StaysReady row = (args state : List Token) (inputs more : List (List Token)) (action : ℕ) → length inputs ≡ row.inports → Grown inputs more → is_ready row args state action inputs ≡ true → is_ready row args state action more ≡ true

-- what an outport is given
abbrev pub given_at : List (Option Token) → ℕ → List Token
given_at out port = option_to_list (unwrap_or (slice_get out port) None)

-- each outport is given as many tokens as the row says, and there is a place for each
abbrev pub GivesItsTokens : Row → Type 0
GivesItsTokens row = (args state heads : List Token) (action port : ℕ) → action < action_count row → (length (effect_of row args state action heads).out ≡ row.outports) × (length (given_at (effect_of row args state action heads).out port) ≡ given row action port)

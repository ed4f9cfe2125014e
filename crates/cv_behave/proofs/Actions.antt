-- What holds of the effect of an action whose guard holds, where it holds of each action.
use Rattle.std.proofs.Common.{◌≡◌, ℕ, suc, ◌==◌, Bool, true, false, if◌then◌else◌, List, [], ◌∷◌, Option}
use Rattle.std.specs.Prelude.{unwrap_or}
use Rattle.cv_token.specs.declared.token.Token.{Token}
use Rattle.cv_token.specs.declared.token.Token.TheVariants as token
use Rattle.cv_behave.specs.declared.behave.Effect.{Effect}
use Rattle.cv_behave.specs.KindRow.{Action, Row, acting, effect_of, for_action, guard_holds}

-- where its guard holds, each action has an effect of which P holds
abbrev pub Each : (Effect → Type 0) → List Token → List Token → List Token → Token → List Action → Type 0
Each P args state heads head [] = Unit {0}
Each P args state heads head (a ∷ more) = (a.guard args state head ≡ true → P (a.effect args state heads)) × Each P args state heads head more

alone : (b x : Bool) (P : Type 0) → (x ≡ true → P) → (if b then x else false) ≡ true → P
alone true x P h e = h e
alone false x P h e = cc

either : (b x rest : Bool) (P : Effect → Type 0) (here later : Effect) → (x ≡ true → P here) → (rest ≡ true → P later) → (if b then x else rest) ≡ true → P (if b then here else later)
either true x rest P here later h g e = h e
either false x rest P here later h g e = g e

from : (P : Effect → Type 0) (args state heads : List Token) (head : Token) (i action : ℕ) (actions : List Action) → Each P args state heads head actions → for_action i action (λ a. a.guard args state head) false actions ≡ true → P (acting i action args state heads actions)
from P args state heads head i action [] each e = cc
from P args state heads head i action (a ∷ []) each e = alone (action == i) (a.guard args state head) (P (a.effect args state heads)) each.0 e
from P args state heads head i action (a ∷ b ∷ more) each e =
    either (action == i) (a.guard args state head) (for_action (suc i) action (λ x. x.guard args state head) false (b ∷ more)) P (a.effect args state heads) (acting (suc i) action args state heads (b ∷ more)) each.0
    (from P args state heads head (suc i) action (b ∷ more) each.1) e

pub by_actions : (P : Effect → Type 0) (row : Row) (args state heads : List Token) (action : ℕ) (head : Option Token) → Each P args state heads (unwrap_or head token.Null) row.actions → guard_holds row args state action head ≡ true → P (effect_of row args state action heads)
by_actions P row args state heads action head each e = from P args state heads (unwrap_or head token.Null) 0 action row.actions each e

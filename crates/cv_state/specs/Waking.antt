-- The moments that live actors wait for.
use Rattle.std.specs.Prelude.{◌≡◌, ℕ, zero, suc, ◌<◌, ◌≤◌, nat_le, if◌then◌else◌, List, [], ◌∷◌, Option, Some, None}
use Rattle.std.specs.FinMap as map
use Rattle.cv_behave.specs.KindRow.{action_count}
use Rattle.cv_token.specs.declared.identifiers.ActorId.{ActorId}
use Rattle.cv_protocol.specs.declared.poll.Need.TheVariants as need
use Rattle.cv_protocol.specs.Actors.{LiveState}
use Rattle.cv_protocol.specs.NodeState.{NodeState}
use Rattle.cv_protocol.specs.Poll.{Look, Lacks, Reads, Fires, look, row_at}

-- 1. In the words of the node table

-- an action of a live actor has this moment as its first lack: it is the actor's, and is to come
pub record Wakes (s : NodeState) (a : ActorId) (t : ℕ) : Type 0 where
  pub live : LiveState
  pub there : map.get s.live a ≡ Some live
  pub action : ℕ
  pub within : action < action_count (row_at live)
  pub lacks : look live s.now action ≡ Lacks (need.Until t)
  pub due : t ≡ live.due
  pub to_come : s.now < t

-- an action waits for this moment, and none for an earlier one
pub record IsNext (s : NodeState) (t : ℕ) : Type 0 where
  pub actor : ActorId
  pub wakes : Wakes s actor t
  pub least : (a : ActorId) (u : ℕ) → Wakes s a u → t ≤ u

-- the least moment that an action waits for; none where no action waits for one
abbrev pub IsNextDue : NodeState → Option ℕ → Type 0
IsNextDue s None = (a : ActorId) (t : ℕ) → Wakes s a t → ⊥
IsNextDue s (Some t) = IsNext s t

-- 2. As it is found, actor by actor and action by action

abbrev pub until_of : Look → Option ℕ
until_of (Lacks (need.Until t)) = Some t
until_of (Lacks (need.Token port count)) = None
until_of (Lacks need.Guard) = None
until_of (Lacks (need.Space port)) = None
until_of (Reads port count) = None
until_of Fires = None

-- the earlier one of two moments, where there are any
abbrev pub earlier : Option ℕ → Option ℕ → Option ℕ
earlier None due = due
earlier (Some t) None = Some t
earlier (Some t) (Some u) = if nat_le t u then Some t else Some u

-- the earliest of a moment found so far, where there is one, and those that so many actions from number `action` on wait for
abbrev pub wake_from : LiveState → ℕ → Option ℕ → ℕ → ℕ → Option ℕ
wake_from l now found action zero = found
wake_from l now found action (suc left) = wake_from l now (earlier found (until_of (look l now action))) (suc action) left

-- and those that the actor's actions wait for
abbrev pub wake_of : ℕ → Option ℕ → LiveState → Option ℕ
wake_of now found l = wake_from l now found 0 (action_count (row_at l))

abbrev pub wake_at : ℕ → Option ℕ → Option (ActorId × LiveState) → Option ℕ
wake_at now found None = found
wake_at now found (Some e) = wake_of now found e.1

abbrev pub first_wake : ℕ → Option ℕ → List (ActorId × LiveState) → Option ℕ
first_wake now found [] = found
first_wake now found (e ∷ es) = first_wake now (wake_of now found e.1) es

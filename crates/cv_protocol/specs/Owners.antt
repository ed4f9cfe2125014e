-- Who owns an actor: the node where it lives, or a move between two nodes, folded over what the rows did.
use Rattle.std.specs.Prelude.{ℕ, Bool, true, false, ◌==◌, ◌&&◌, nat_lt, if◌then◌else◌, length, Option, Some, None}
use Rattle.cv_token.specs.declared.identifiers.AppId.{AppId}
use Rattle.cv_token.specs.declared.identifiers.ActorId.{ActorId}
use Rattle.cv_kinds.specs.Net.{Net}
use Rattle.cv_table.specs.Order.{same_app, same_actor}
use Rattle.cv_protocol.specs.Rows.{Deed, Nothing, Deployed, Used, Fired_action, Passed, Received, Froze, Accepted_here, Resumed, Removed, Destroyed_here}

-- an actor lives at a node, is on its way from one to another by an attempt, or is nowhere: never deployed, or removed
pub data Owner : Type 0 where
  Nowhere : Owner
  At : (node : ℕ) → Owner
  Between : (source target attempt : ℕ) → Owner

abbrev pub Owners : Type 0
Owners = ActorId → Owner

-- 1. Tests

abbrev pub is_at : ℕ → Owner → Bool
is_at i Nowhere = false
is_at i (At j) = i == j
is_at i (Between source target attempt) = false

-- on its way to node i by that attempt
abbrev pub is_coming : ℕ → ℕ → Owner → Bool
is_coming i e Nowhere = false
is_coming i e (At j) = false
is_coming i e (Between source target attempt) = (i == target) && (e == attempt)

-- on its way from node i by that attempt
abbrev pub is_going : ℕ → ℕ → Owner → Bool
is_going i e Nowhere = false
is_going i e (At j) = false
is_going i e (Between source target attempt) = (i == source) && (e == attempt)

-- 2. Changes

abbrev pub with_owner : Owners → ActorId → Owner → Owners
with_owner own a o b = if same_actor b a then o else own b

-- the actors of a network that is deployed
abbrev pub is_of : AppId → Net → ActorId → Bool
is_of app net a = same_app a.app app && nat_lt a.actor (length net.actors)

abbrev pub with_deployed : Owners → ℕ → AppId → Net → Owners
with_deployed own i app net b = if is_of app net b then At i else own b

-- the application's actors that live at node i are removed
abbrev pub without_app : Owners → ℕ → AppId → Owners
without_app own i app b = if same_app b.app app && is_at i (own b) then Nowhere else own b

-- where a test holds; undefined elsewhere
abbrev pub where_so : Bool → Owners → Option Owners
where_so false own = None
where_so true own = Some own

-- 3. The fold

-- the owners after a deed at node i. It is undefined where the deed needs another owner
abbrev pub owners_after : Owners → ℕ → Deed → Option Owners
owners_after own i Nothing = Some own
owners_after own i (Deployed app net) = Some (with_deployed own i app net)
owners_after own i (Used a) = where_so (is_at i (own a)) own
owners_after own i (Fired_action a action) = where_so (is_at i (own a)) own
owners_after own i (Passed a b conn token) = where_so (is_at i (own a) && is_at i (own b)) own
owners_after own i (Received a conn t) = where_so (is_at i (own a)) own
owners_after own i (Froze a to e) = where_so (is_at i (own a)) (with_owner own a (Between i to e))
owners_after own i (Accepted_here a e) = where_so (is_coming i e (own a)) (with_owner own a (At i))
owners_after own i (Resumed a e) = where_so (is_going i e (own a)) (with_owner own a (At i))
owners_after own i (Removed a e) = where_so (is_going i e (own a)) (with_owner own a Nowhere)
owners_after own i (Destroyed_here app) = Some (without_app own i app)

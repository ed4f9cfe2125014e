-- An application that is destroyed.
use Rattle.std.specs.Prelude.{ℕ, ◌+◌, ◌==◌, Bool, true, false, not, List, Option, Some, None}
use Rattle.cv_token.specs.declared.identifiers.AppId.{AppId}
use Rattle.cv_protocol.specs.declared.frame.Body.TheVariants as body
use Rattle.cv_protocol.specs.declared.frame.Frame.{Frame}
use Rattle.cv_protocol.specs.declared.moving.Application.{Application}
use Rattle.cv_protocol.specs.declared.moving.Application.TheVariants as known
use Rattle.cv_protocol.specs.NodeState.{NodeState}
use Rattle.cv_protocol.specs.Rows.{frame_to}
use Rattle.cv_state.specs.Kept.{kept, kept_at}

-- the application is known and not destroyed
abbrev pub is_living : Option Application → Bool
is_living None = false
is_living (Some (known.Known name net)) = true
is_living (Some known.Destroyed) = false

-- the word to a node, where it is another one
abbrev pub word_to : NodeState → AppId → Option ℕ → Option Frame
word_to s app node = kept_at (λ (node : ℕ). frame_to s (s.stamp + 1) node (body.Destroy app)) (λ (node : ℕ). not (node == s.spec.no)) node

-- and to each of these nodes
abbrev pub farewells : NodeState → AppId → List ℕ → List Frame
farewells s app nodes = kept (λ (node : ℕ). frame_to s (s.stamp + 1) node (body.Destroy app)) (λ (node : ℕ). not (node == s.spec.no)) nodes

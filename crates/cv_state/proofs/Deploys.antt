-- The row Deploy, and the loops of a deployment.
use Rattle.std.proofs.Common.{◌≡◌, ℕ, suc, ◌+◌, ◌&&◌, nat_lt, true, false, List, [], ◌∷◌, length, Some, refl, ap, ◌∙◌}
use Rattle.std.specs.FinMap as map
use Rattle.cv_token.specs.declared.identifiers.AppId.{AppId}
use Rattle.cv_table.specs.Order.{actor_cmp}
use Rattle.cv_kinds.specs.declared.network.ActorSpec.{ActorSpec}
use Rattle.cv_kinds.specs.declared.network.Connection.{Connection}
use Rattle.cv_kinds.specs.Net.{Net}
use Rattle.cv_protocol.specs.declared.event.Event.TheVariants as event
use Rattle.cv_protocol.specs.declared.moving.Location.{Location}
use Rattle.cv_protocol.specs.declared.refusal.StepRefusal.TheVariants as refusal
use Rattle.cv_protocol.specs.Actors.{LiveState}
use Rattle.cv_protocol.specs.NodeRow.{cause_of, last_cause}
use Rattle.cv_protocol.specs.NodeState.{Known, Moves, NodeState}
use Rattle.cv_protocol.specs.Poll.{limit}
use Rattle.cv_protocol.specs.Rows.{all_hinted, all_live, deploy, deployed_state, elsewhere, most_applications}
use Rattle.cv_state.specs.Deploying.{all_settled, are_due, deployed_known, new_lives}
use Rattle.cv_state.proofs.Local.{spent}

-- the actors at the start live here
pub settles : (app : AppId) (connections : List Connection) (now actor : ℕ) (specs : List ActorSpec) (live : map.FinMap actor_cmp LiveState) → all_settled app actor (new_lives app connections now actor specs) live ≡ all_live app connections now actor specs live
settles app connections now actor [] live = refl
settles app connections now actor (spec ∷ specs) live = settles app connections now (suc actor) specs _

pub lives_count : (app : AppId) (connections : List Connection) (now actor : ℕ) (specs : List ActorSpec) → length (new_lives app connections now actor specs) ≡ length specs
lives_count app connections now actor [] = refl
lives_count app connections now actor (spec ∷ specs) = ap suc (lives_count app connections now (suc actor) specs)

-- the state once each table was written
pub installed : (s : NodeState) (name : List ℕ) (net : Net) (app : AppId) (known : Known) (live : map.FinMap actor_cmp LiveState) (moves : Moves) (hints : map.FinMap actor_cmp Location) (lives : List LiveState) → known ≡ deployed_known s.known app name net → lives ≡ new_lives app net.connections s.now 0 net.actors → live ≡ all_settled app 0 lives (map.retain_keys s.live (elsewhere app)) → moves ≡ record (s.moves) { frozen = map.retain_keys s.moves.frozen (elsewhere app) } → hints ≡ all_hinted app s.spec.no 0 net.actors s.hints → record s { known = known; live = live; moves = moves; hints = hints } ≡ deployed_state s name net app
installed s name net app known live moves hints lives known_is lives_are live_is moves_are hints_are =
    let settled = live_is ∙ ap (λ (ls : List LiveState). all_settled app 0 ls (map.retain_keys s.live (elsewhere app))) lives_are ∙ settles app net.connections s.now 0 net.actors (map.retain_keys s.live (elsewhere app)) in
    λ i. record s { known = known_is i; live = settled i; moves = moves_are i; hints = hints_are i }

pub deploy_spent : (s : NodeState) (name : List ℕ) (net : Net) → nat_lt s.known.deployed most_applications ≡ true → are_due s.now net.actors && nat_lt (s.stamp + 1) limit ≡ false → cause_of s (event.Deploy name net) ≡ Some refusal.StampSpent
deploy_spent s name net fits late =
    ap (λ b. last_cause (s.stamp + 1) (event.Deploy name net) (deploy s name net b)) fits ∙ spent _ late

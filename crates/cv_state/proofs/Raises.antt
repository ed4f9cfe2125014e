-- What hints that are raised change, table by table.
use Rattle.std.proofs.Common.{◌≡◌, ℕ, Bool, true, false, List, [], ◌∷◌, refl, ap, sym, ◌∙◌}
use Rattle.std.specs.FinMap as map
use Rattle.cv_token.specs.declared.identifiers.ActorId.{ActorId}
use Rattle.cv_protocol.specs.declared.frame.Verdict.TheVariants as verdict
use Rattle.cv_protocol.specs.declared.state.Hint.{Hint}
use Rattle.cv_table.specs.Order.{actor_cmp}
use Rattle.cv_protocol.specs.Actors.{LiveState, StateView}
use Rattle.cv_protocol.specs.Travel.{restore}
use Rattle.cv_protocol.specs.NodeState.{Known, Moves, NodeState, is_later, raise, released, with_hint, with_release}
use Rattle.cv_protocol.specs.Deliveries.{accepted_state, all_raised, arrived, outs_noted, with_verdict}
use Rattle.cv_state.specs.Arrivals.{Places, all_hinted, all_released, hinted, hinted_if, places_of, with_record}

-- a state with these places and moves
abbrev pub with_places : NodeState → Places → Moves → NodeState
with_places s p m = record s { hints = p.hints; live = p.live; moves = m }

raised_if : (s : NodeState) (h : Hint) (b : Bool) → with_release (with_hint s h.actor h.attempt h.node b) h.actor h.attempt ≡ with_places s (hinted_if (places_of s.hints s.live) h b) (released s.moves h.actor h.attempt)
raised_if s h false = refl
raised_if s h true = refl

-- one hint
pub raised : (s : NodeState) (h : Hint) → raise s h.actor h.attempt h.node ≡ with_places s (hinted (places_of s.hints s.live) h) (released s.moves h.actor h.attempt)
raised s h = raised_if s h (is_later h.attempt (map.get s.hints h.actor))

-- the hints of a list
pub many_raised : (hs : List Hint) (s : NodeState) → all_raised hs s ≡ with_places s (all_hinted hs (places_of s.hints s.live)) (all_released hs s.moves)
many_raised [] s = refl
many_raised (h ∷ hs) s =
    ap (all_raised hs) (raised s h)
    ∙ many_raised hs (with_places s (hinted (places_of s.hints s.live) h) (released s.moves h.actor h.attempt))

-- an actor that comes to live at a node
abbrev pub joined : NodeState → ActorId → StateView → NodeState
joined s a state = record s {
  known = record (s.known) { producers = outs_noted a state.actor.outs s.known.producers };
}

abbrev pub own_hint : NodeState → ActorId → ℕ → Hint
own_hint s a attempt = record { actor = a; attempt = attempt; node = s.spec.no }

pub arrival : (s : NodeState) (a : ActorId) (attempt : ℕ) (state : StateView) → accepted_state s a attempt state ≡ with_places (joined s a state) (all_hinted state.hints (hinted (places_of s.hints (map.insert s.live a (restore state attempt s.now))) (own_hint s a attempt))) (all_released state.hints (released (with_record s.moves a attempt verdict.Accepted) a attempt))
arrival s a attempt state =
    let there = arrived (with_verdict s a attempt verdict.Accepted) a attempt state in
    ap (all_raised state.hints) (raised there (own_hint s a attempt))
    ∙ many_raised state.hints (with_places there (hinted (places_of there.hints there.live) (own_hint s a attempt)) (released there.moves a attempt))

-- the state once an actor came to live here, as the code made its tables
pub arrives : (s : NodeState) (a : ActorId) (attempt : ℕ) (state : StateView) (known : Known) (m : Moves) (p q : Places) (l : map.FinMap actor_cmp LiveState) → known ≡ (joined s a state).known → m ≡ all_released state.hints (released (with_record s.moves a attempt verdict.Accepted) a attempt) → l ≡ map.insert s.live a (restore state attempt s.now) → p ≡ hinted (places_of s.hints l) (own_hint s a attempt) → q ≡ all_hinted state.hints p → with_places (record s { known = known }) q m ≡ accepted_state s a attempt state
arrives s a attempt state known m p q l connections moves lives own others =
    ap (λ (k : Known). with_places (record s { known = k }) q m) connections
    ∙ ap (λ (n : Moves). with_places (joined s a state) q n) moves
    ∙ ap (λ (r : Places). with_places (joined s a state) r (all_released state.hints (released (with_record s.moves a attempt verdict.Accepted) a attempt))) (others ∙ ap (all_hinted state.hints) (own ∙ ap (λ (m : map.FinMap actor_cmp LiveState). hinted (places_of s.hints m) (own_hint s a attempt)) lives))
    ∙ sym (arrival s a attempt state)

-- Who fires lives at the node, and the firings of the run's application are all firings.
use Rattle.std.proofs.Common.{◌≡◌, ℕ, zero, suc, ◌+◌, Bool, true, is_some, cond, if◌then◌else◌, List, [], ◌∷◌, ◌++◌, length, Option, Some, None, Contains, refl, sym, ap, ◌∙◌, arith, append_assoc, length-append}
use Rattle.std.specs.Prelude.{option_and_then, IsSome}
use Rattle.std.specs.FinMap as map
use Rattle.std.proofs.lemmas.Option.{none-some as none_some}
use Rattle.std.proofs.lemmas.List.Sums.{sum_by-cons}
use Rattle.cv_token.specs.declared.identifiers.ActorId.{ActorId}
use Rattle.cv_table.specs.Order.{same_app}
use Rattle.cv_protocol.specs.declared.event.Entry.{Entry}
use Rattle.cv_protocol.specs.declared.event.Event.{Event}
use Rattle.cv_protocol.specs.declared.event.Event.TheVariants as event
use Rattle.cv_protocol.specs.declared.event.Step.{Step}
use Rattle.cv_protocol.specs.Actors.{LiveState}
use Rattle.cv_protocol.specs.NodeState.{NodeState}
use Rattle.cv_protocol.specs.NodeRow.{row, stamped}
use Rattle.cv_protocol.specs.Rows.{Did, fire}
use Rattle.cv_protocol.specs.Journals.{did_at, next_of, replay, IsLocalRun}
use Rattle.cv_node.specs.Counts.{is_firing}
use Rattle.cv_alone.specs.Resting.{run_app}
use Rattle.cv_handover.specs.Runtimes.{firing_at, firings}
use Rattle.cv_spread.proofs.Counting.{firing_steps}

-- 1. Where an element stands

pub record Cut {X : Type 0} (xs : List X) (x : X) : Type 0 where
  pub before : List X
  pub after : List X
  pub stands : xs ≡ before ++ x ∷ after

pub cut_of : {X : Type 0} (xs : List X) (x : X) → Contains xs x → Cut xs x
cut_of [] x c = absurd (omega (arith, c.1))
cut_of {X = X} (y ∷ xs) x (zero, h, e) = record { before = []; after = xs; stands = ap (λ (z : X). z ∷ xs) e }
cut_of {X = X} (y ∷ xs) x (suc n, h, e) =
    let k = cut_of xs x (n, omega (arith, h), e) in
    record { before = y ∷ k.before; after = k.after; stands = ap (λ (zs : List X). y ∷ zs) k.stands }

-- 2. The state in which an entry of a local run stands

pub record Reached (first : NodeState) (before : List Entry) (e : Entry) : Type 0 where
  pub here : NodeState
  pub replays : replay first before ≡ Some here
  pub did : Did
  pub does : did_at here e ≡ Some did

reached_first : (s : NodeState) (e : Entry) (after : List Entry) (o : Option Did) → did_at s e ≡ o → IsSome (option_and_then (λ next. replay next after) (next_of o)) → Reached s [] e
reached_first s e after None is run = absurd (cc)
reached_first s e after (Some d) is run = record { here = s; replays = refl; did = d; does = is }

reached_later : (s : NodeState) (x : Entry) (before : List Entry) (e : Entry) (after : List Entry) → ((next : NodeState) → IsLocalRun next (before ++ e ∷ after) → Reached next before e) → (o : Option NodeState) → next_of (did_at s x) ≡ o → IsSome (option_and_then (λ next. replay next (before ++ e ∷ after)) o) → Reached s (x ∷ before) e
reached_later s x before e after below None is run = absurd (cc)
reached_later s x before e after below (Some next) is run =
    let k = below next run in
    record { here = k.here; replays = ap (option_and_then (λ (n : NodeState). replay n before)) is ∙ k.replays; did = k.did; does = k.does }

pub reached : (before : List Entry) (s : NodeState) (e : Entry) (after : List Entry) → IsLocalRun s (before ++ e ∷ after) → Reached s before e
reached [] s e after run = reached_first s e after (did_at s e) refl run
reached (x ∷ before) s e after run =
    reached_later s x before e after (λ next later. reached before next e after later) (next_of (did_at s x)) refl run

-- 3. Firings

live_by : (s : NodeState) (stamp : ℕ) (a : ActorId) (action : ℕ) (l : Option LiveState) (d : Did) → stamped stamp (fire s a action l) ≡ Some d → is_some l ≡ true
live_by s stamp a action None d is = absurd (none_some d is)
live_by s stamp a action (Some l) d is = refl

pub live_fires : (s : NodeState) (a : ActorId) (action : ℕ) (d : Did) → row s (event.Fire a action) ≡ Some d → is_some (map.get s.live a) ≡ true
live_fires s a action d is = live_by s (s.stamp + 1) a action (map.get s.live a) d is

counted : (e : Event) → ((a : ActorId) (action : ℕ) → e ≡ event.Fire a action → same_app a.app run_app ≡ true) → length (firing_at run_app e) ≡ cond (is_firing e) 1 0
counted (event.Fire a action) own = ap (λ (b : Bool). length {A = ℕ × ℕ} (if b then (a.actor, action) ∷ [] else [])) (own a action refl)
counted (event.Meet node attrs) own = refl
counted (event.Deploy name net) own = refl
counted (event.Tick now) own = refl
counted (event.Peek a port) own = refl
counted (event.Pass conn) own = refl
counted (event.Send conn) own = refl
counted (event.Rewind conn) own = refl
counted (event.Freeze a to) own = refl
counted (event.Resend a) own = refl
counted (event.Withdraw a) own = refl
counted (event.Hint a attempt node) own = refl
counted (event.Destroy app) own = refl
counted (event.Lose f) own = refl
counted (event.Deliver f) own = refl

pub counted_all : (m : List Step) → ((before after : List Step) (s : Step) → m ≡ before ++ s ∷ after → (a : ActorId) (action : ℕ) → s.event ≡ event.Fire a action → same_app a.app run_app ≡ true) → (before steps : List Step) → m ≡ before ++ steps → length (firings run_app steps) ≡ firing_steps steps
counted_all m own before [] cut = refl
counted_all m own before (s ∷ steps) cut =
    let here = counted s.event (own before steps s cut) in
    let rest = counted_all m own (before ++ s ∷ []) steps (cut ∙ sym (append_assoc before (s ∷ []) steps)) in
    omega (arith, here, rest, length-append (firing_at run_app s.event) (firings run_app steps), sum_by-cons (λ (t : Step). cond (is_firing t.event) 1 0) s steps)

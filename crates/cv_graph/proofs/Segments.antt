-- The checks of each part, one element after another.
use Rattle.std.proofs.Common.{◌≡◌, ◌≢◌, ℕ, zero, suc, ◌+◌, ◌<◌, inl, inr, List, [], ◌∷◌, ◌++◌, length, take, drop, get_or, slice_get, Option, Some, None, refl, sym, ap, subst, arith}
use Rattle.std.proofs.lemmas.Option.{slice_get-get_or}
use Rattle.std.proofs.lemmas.List.{drop_more}
use Rattle.cv_expand.specs.declared.flat.Actor.{Actor}
use Rattle.cv_expand.specs.declared.flat.Feed.{Feed}
use Rattle.cv_expand.specs.declared.flat.Parts.{Parts}
use Rattle.cv_expand.specs.declared.path.Step.{Step}
use Rattle.cv_expand.proofs.Unless.{drop_read}
use Rattle.cv_kinds.specs.declared.kind.Kind.{Kind}
use Rattle.cv_kinds.specs.declared.network.ActorSpec.{ActorSpec}
use Rattle.cv_kinds.specs.Names.{kind_named}
use Rattle.cv_graph.specs.declared.fault.GraphFault.{GraphFault}
use Rattle.cv_graph.specs.declared.fault.GraphFault.TheVariants as faults
use Rattle.cv_graph.specs.declared.port.Side.TheVariants as side
use Rattle.cv_graph.specs.declared.ways.Supply.{Supply}
use Rattle.cv_graph.specs.declared.ways.Supply.TheVariants as supplies
use Rattle.cv_graph.specs.Checks.{Check, kind_known, args_taken, source_there, target_there, fed_once, inport_fed, queues_fit, Holds, actor_checks, feed_checks, inport_checks, fed_checks, queue_checks, AllHold, IsFirst}
use Rattle.cv_graph.specs.Faults.{Faulty}
use Rattle.cv_graph.specs.Links.{Feeds, AreSupplied}
use Rattle.cv_graph.specs.Meaning.{IsSpec, AreSpecs, FitsQueues}
use Rattle.cv_graph.specs.Ports.{End, port, kind_place, actor_place, IsActorPort, IsFed}
use Rattle.cv_graph.proofs.Judging.{Left, left_next, left_stop}
use Rattle.cv_graph.proofs.Lists.{take_read, at_map, some_same}
use Rattle.cv_graph.proofs.Single.{one_spec}

-- ---- actors

pub actor_next : (parts : Parts) (all : List Check) (xs : List Actor) (i : ℕ) (x : Actor) → i < length xs → x ≡ get_or xs i x → Left parts all (actor_checks (drop i xs)) → AllHold parts (kind_known x ∷ args_taken x ∷ []) → Left parts all (actor_checks (drop (i + 1) xs))
actor_next parts all xs i x h e left held = left_next parts all (kind_known x ∷ args_taken x ∷ []) (actor_checks (drop (i + 1) xs)) (subst (λ (l : List Actor). Left parts all (actor_checks l)) (drop_read xs i x h e) left) held

pub actor_stop : (parts : Parts) (all : List Check) (xs : List Actor) (i : ℕ) (x : Actor) (fault : GraphFault) → i < length xs → x ≡ get_or xs i x → Left parts all (actor_checks (drop i xs)) → Faulty parts (kind_known x ∷ args_taken x ∷ []) fault → Faulty parts all fault
actor_stop parts all xs i x fault h e left told = left_stop parts all (kind_known x ∷ args_taken x ∷ []) (actor_checks (drop (i + 1) xs)) fault (subst (λ (l : List Actor). Left parts all (actor_checks l)) (drop_read xs i x h e) left) told

pub specs_push : (actors : List Actor) (specs : List ActorSpec) (a : Actor) (s : ActorSpec) → AreSpecs actors specs → IsSpec a s → AreSpecs (actors ++ a ∷ []) (specs ++ s ∷ [])
specs_push [] [] a s h is = (is, tt)
specs_push [] (t ∷ specs) a s h is = absurd h
specs_push (b ∷ actors) [] a s h is = absurd h
specs_push (b ∷ actors) (t ∷ specs) a s h is = (h.0, specs_push actors specs a s h.1 is)

pub specs_more : (xs : List Actor) (specs : List ActorSpec) (i : ℕ) (x : Actor) (s : ActorSpec) → i < length xs → x ≡ get_or xs i x → AreSpecs (take i xs) specs → IsSpec x s → AreSpecs (take (i + 1) xs) (specs ++ s ∷ [])
specs_more xs specs i x s h e are is = subst (λ (l : List Actor). AreSpecs l (specs ++ s ∷ [])) (sym (take_read xs i x h e)) (specs_push (take i xs) specs x s are is)

pub specs_length : (actors : List Actor) (specs : List ActorSpec) → AreSpecs actors specs → length actors ≡ length specs
specs_length [] [] h = refl
specs_length [] (s ∷ specs) h = absurd h
specs_length (a ∷ actors) [] h = absurd h
specs_length (a ∷ actors) (s ∷ specs) h = let e = specs_length actors specs h.1 in omega (arith, e)

pub spec_at : (actors : List Actor) (specs : List ActorSpec) (i : ℕ) (a : Actor) (s : ActorSpec) → AreSpecs actors specs → slice_get actors i ≡ Some a → slice_get specs i ≡ Some s → IsSpec a s
spec_at [] specs i a s h e g = cc
spec_at (b ∷ actors) [] i a s h e g = cc
spec_at (b ∷ actors) (t ∷ specs) zero a s h e g = subst (λ (x : ActorSpec). IsSpec a x) (some_same t s g) (subst (λ (x : Actor). IsSpec x t) (some_same b a e) h.0)
spec_at (b ∷ actors) (t ∷ specs) (suc i) a s h e g = spec_at actors specs i a s h.1 e g

-- ---- joins

joined_left : (parts : Parts) (all : List Check) (xs : List Feed) (i : ℕ) (x : Feed) → i < length xs → x ≡ get_or xs i x → Left parts all (feed_checks (take i xs) (drop i xs)) → Left parts all (feed_checks (take i xs) (x ∷ drop (i + 1) xs))
joined_left parts all xs i x h e left = subst (λ (l : List Feed). Left parts all (feed_checks (take i xs) l)) (drop_read xs i x h e) left

pub feed_next : (parts : Parts) (all : List Check) (xs : List Feed) (i : ℕ) (x : Feed) → i < length xs → x ≡ get_or xs i x → Left parts all (feed_checks (take i xs) (drop i xs)) → AllHold parts (source_there x ∷ target_there x ∷ []) → Holds parts (fed_once (take i xs) x)
    → Left parts all (feed_checks (take (i + 1) xs) (drop (i + 1) xs))
feed_next parts all xs i x h e left ports once =
    subst (λ (l : List Feed). Left parts all (feed_checks l (drop (i + 1) xs))) (sym (take_read xs i x h e))
    (left_next parts all (source_there x ∷ target_there x ∷ fed_once (take i xs) x ∷ []) (feed_checks (take i xs ++ x ∷ []) (drop (i + 1) xs)) (joined_left parts all xs i x h e left) (ports.0, (ports.1.0, (once, tt))))

pub feed_stop : (parts : Parts) (all : List Check) (xs : List Feed) (i : ℕ) (x : Feed) (fault : GraphFault) → i < length xs → x ≡ get_or xs i x → Left parts all (feed_checks (take i xs) (drop i xs)) → Faulty parts (source_there x ∷ target_there x ∷ []) fault → Faulty parts all fault
feed_stop parts all xs i x fault h e left told =
    left_stop parts all (source_there x ∷ target_there x ∷ []) (fed_once (take i xs) x ∷ feed_checks (take i xs ++ x ∷ []) (drop (i + 1) xs)) fault (joined_left parts all xs i x h e left) told

pub twice_stop : (parts : Parts) (all : List Check) (xs : List Feed) (i : ℕ) (x : Feed) → i < length xs → x ≡ get_or xs i x → Left parts all (feed_checks (take i xs) (drop i xs)) → AllHold parts (source_there x ∷ target_there x ∷ []) → (Holds parts (fed_once (take i xs) x) → ⊥)
    → IsFirst parts all (faults.FedTwice x.target_at)
twice_stop parts all xs i x h e left ports twice =
    (joined_left parts all xs i x h e left).fails (faults.FedTwice x.target_at) (inr (ports.0, inr (ports.1.0, inl (twice, refl))))

-- ---- inports

pub actor_path : (a : Actor) → (actor_place a).path ≡ a.path
actor_path a = by_kind (kind_named a.kind)
  where
    by_kind : (k : Option Kind) → (kind_place a.path k).path ≡ a.path
    by_kind None = refl
    by_kind (Some k) = refl

inport_is : (parts : Parts) (a : Actor) (to n : ℕ) (name : List ℕ) → slice_get parts.actors to ≡ Some a → slice_get (actor_place a).inports n ≡ Some name → IsActorPort parts side.In to n (port a.path side.In name)
inport_is parts a to n name at there = (actor_place a, name, at_map actor_place parts.actors to a at, there, ap (λ (p : List Step). port p side.In name) (sym (actor_path a)))

fed_of : (parts : Parts) (e : End) (o : Option Supply) → Feeds parts e o → o ≢ None → IsFed parts e
fed_of parts e None h some = absurd (some refl)
fed_of parts e (Some supplies.Void) h some = inl h
fed_of parts e (Some (supplies.Outport actor number)) h some = inr (actor, number, h.0, h.1, h.2)

pub inport_next : (parts : Parts) (all : List Check) (supply : ℕ → ℕ → Option Supply) (a : Actor) (to n : ℕ) → AreSupplied parts supply → slice_get parts.actors to ≡ Some a → n < length (actor_place a).inports → Left parts all (inport_checks a (drop n (actor_place a).inports)) → supply to n ≢ None
    → Left parts all (inport_checks a (drop (n + 1) (actor_place a).inports))
inport_next parts all supply a to n known at inside left some =
    let names = (actor_place a).inports in
    let name = get_or names n [] in
    let there = slice_get-get_or names n [] inside in
    let fed = fed_of parts (port a.path side.In name) (supply to n) (known.feeds to n (port a.path side.In name) (inport_is parts a to n name at there)) some in
    left_next parts all (inport_fed a name ∷ []) (inport_checks a (drop (n + 1) names)) (subst (λ (l : List (List ℕ)). Left parts all (inport_checks a l)) (drop_more names n [] inside) left) (fed, tt)

pub inport_stop : (parts : Parts) (all : List Check) (supply : ℕ → ℕ → Option Supply) (a : Actor) (to n : ℕ) → AreSupplied parts supply → slice_get parts.actors to ≡ Some a → n < length (actor_place a).inports → Left parts all (inport_checks a (drop n (actor_place a).inports)) → supply to n ≡ None
    → IsFirst parts all (faults.Unfed a.at)
inport_stop parts all supply a to n known at inside left none =
    let names = (actor_place a).inports in
    let name = get_or names n [] in
    let there = slice_get-get_or names n [] inside in
    let unfed = subst (Feeds parts (port a.path side.In name)) none (known.feeds to n (port a.path side.In name) (inport_is parts a to n name at there)) in
    (subst (λ (l : List (List ℕ)). Left parts all (inport_checks a l)) (drop_more names n [] inside) left).fails (faults.Unfed a.at) (inl (unfed, refl))

pub fed_next : (parts : Parts) (all : List Check) (xs : List Actor) (i : ℕ) (x : Actor) → i < length xs → x ≡ get_or xs i x → Left parts all (fed_checks (drop i xs)) → AllHold parts (inport_checks x (actor_place x).inports) → Left parts all (fed_checks (drop (i + 1) xs))
fed_next parts all xs i x h e left held = left_next parts all (inport_checks x (actor_place x).inports) (fed_checks (drop (i + 1) xs)) (subst (λ (l : List Actor). Left parts all (fed_checks l)) (drop_read xs i x h e) left) held

pub fed_stop : (parts : Parts) (all : List Check) (xs : List Actor) (i : ℕ) (x : Actor) (fault : GraphFault) → i < length xs → x ≡ get_or xs i x → Left parts all (fed_checks (drop i xs)) → Faulty parts (inport_checks x (actor_place x).inports) fault → Faulty parts all fault
fed_stop parts all xs i x fault h e left told = left_stop parts all (inport_checks x (actor_place x).inports) (fed_checks (drop (i + 1) xs)) fault (subst (λ (l : List Actor). Left parts all (fed_checks l)) (drop_read xs i x h e) left) told

-- ---- queues

pub queue_next : (parts : Parts) (all : List Check) (xs : List Actor) (i : ℕ) (x : Actor) → i < length xs → x ≡ get_or xs i x → Left parts all (queue_checks (drop i xs)) → Holds parts (queues_fit x) → Left parts all (queue_checks (drop (i + 1) xs))
queue_next parts all xs i x h e left held = left_next parts all (queues_fit x ∷ []) (queue_checks (drop (i + 1) xs)) (subst (λ (l : List Actor). Left parts all (queue_checks l)) (drop_read xs i x h e) left) (held, tt)

pub queue_stop : (parts : Parts) (all : List Check) (xs : List Actor) (i : ℕ) (x : Actor) → i < length xs → x ≡ get_or xs i x → Left parts all (queue_checks (drop i xs)) → (Holds parts (queues_fit x) → ⊥) → IsFirst parts all (faults.BatchOverQueue x.at)
queue_stop parts all xs i x h e left fails = (subst (λ (l : List Actor). Left parts all (queue_checks l)) (drop_read xs i x h e) left).fails (faults.BatchOverQueue x.at) (inl (fails, refl))

pub queue_ok : (parts : Parts) (specs : List ActorSpec) (i : ℕ) (a : Actor) (s : ActorSpec) → AreSpecs parts.actors specs → slice_get parts.actors i ≡ Some a → slice_get specs i ≡ Some s → FitsQueues s → Holds parts (queues_fit a)
queue_ok parts specs i a s are at there fits = λ t is. one_spec a s t (spec_at parts.actors specs i a s are at there) is fits

pub queue_not : (parts : Parts) (specs : List ActorSpec) (i : ℕ) (a : Actor) (s : ActorSpec) → AreSpecs parts.actors specs → slice_get parts.actors i ≡ Some a → slice_get specs i ≡ Some s → (FitsQueues s → ⊥) → Holds parts (queues_fit a) → ⊥
queue_not parts specs i a s are at there fails holds = fails (holds s (spec_at parts.actors specs i a s are at there))

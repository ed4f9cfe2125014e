-- The network of parts is one: wired, its paths distinct.
use Rattle.std.proofs.Common.{◌≡◌, ℕ, zero, suc, ◌<◌, ◌≤◌, ◌⊎◌, inl, inr, Bool, true, false, List, [], ◌∷◌, ◌++◌, map, length, get_or, slice_get, Option, Some, refl, sym, ◌∙◌, ap, subst, arith}
use Rattle.std.proofs.lemmas.Option.{slice_get-get_or, slice_get_within}
use Rattle.std.proofs.lemmas.Slice.Eq.{bytes_eq-Decides}
use Rattle.std.specs.List.{All, AllByRecursion, IsDistinct}
use Rattle.std.specs.Str.{bytes_eq}
use Rattle.cv_expand.specs.declared.flat.Actor.{Actor}
use Rattle.cv_expand.specs.declared.flat.Instance.{Instance}
use Rattle.cv_expand.specs.declared.flat.Parts.{Parts}
use Rattle.cv_expand.specs.declared.path.Step.{Step}
use Rattle.cv_expand.specs.Bodies.{Among, Distinct}
use Rattle.cv_expand.specs.Flat.{IsFlat}
use Rattle.cv_expand.specs.Paths.{IsPath}
use Rattle.cv_expand.proofs.Among.{Among-append_left}
use Rattle.cv_expand.proofs.PathTexts.{one_path}
use Rattle.cv_kinds.specs.declared.network.ActorSpec.{ActorSpec}
use Rattle.cv_kinds.specs.declared.network.Connection.{Connection}
use Rattle.cv_kinds.specs.Net.{Net}
use Rattle.cv_kinds.specs.WellFormed.{IsSpec as IsSound, IsWellFormed, path_list}
use Rattle.cv_kinds.specs.Wired.{HasOutport, HasInport, IsWired, HasPorts}
use Rattle.cv_kinds.proofs.Lines.{inports_are, outports_are}
use Rattle.cv_kinds.proofs.Wires.{wired_of}
use Rattle.cv_graph.specs.declared.port.Side.{Side}
use Rattle.cv_graph.specs.declared.port.Side.TheVariants as side
use Rattle.cv_graph.specs.Meaning.{IsSpec, AreSpecs, IsNetwork}
use Rattle.cv_graph.specs.Ports.{End, Place, kind_place, actor_place, names_on, IsActorPort}
use Rattle.cv_graph.proofs.Lists.{some_same, among_at, map_at}
use Rattle.cv_graph.proofs.Segments.{specs_length}
use Rattle.cv_graph.proofs.Whole.{few_actors}

unequal : (b : Bool) → (b ≡ true → ⊥) → b ≡ false
unequal true h = absurd (h refl)
unequal false h = refl

spec_there : (actors : List Actor) (specs : List ActorSpec) (i : ℕ) (a : Actor) → AreSpecs actors specs → slice_get actors i ≡ Some a → (s : ActorSpec) × (slice_get specs i ≡ Some s) × IsSpec a s
spec_there [] specs i a h e = cc
spec_there (b ∷ actors) [] i a h e = absurd h
spec_there (b ∷ actors) (s ∷ specs) zero a h e = (s, refl, subst (λ (x : Actor). IsSpec x s) (some_same b a e) h.0)
spec_there (b ∷ actors) (s ∷ specs) (suc i) a h e = spec_there actors specs i a h.1 e

-- the port of an actor is one of the kind that it has in the network
port_there : (parts : Parts) (net : Net) (s : Side) (n k : ℕ) (e : End) → IsNetwork parts net → IsActorPort parts s n k e → (x : ActorSpec) × (path : List Step) × (slice_get net.actors n ≡ Some x) × (k < length (names_on s (kind_place path (Some x.kind))))
port_there parts net s n k e is h =
    let a = map_at actor_place parts.actors n h.0 h.2 in
    let x = spec_there parts.actors net.actors n a.0 is.actors a.1 in
    let below = slice_get_within (names_on s h.0) k h.1 h.3 in
    (x.0, a.0.path, x.1, subst (λ (p : Place). k < length (names_on s p)) (sym a.2 ∙ ap (kind_place a.0.path) x.2.kind) below)

outport_there : (parts : Parts) (net : Net) (n k : ℕ) (e : End) → IsNetwork parts net → IsActorPort parts side.Out n k e → HasOutport (slice_get net.actors n) k
outport_there parts net n k e is h =
    let r = port_there parts net side.Out n k e is h in
    let below = r.3 in
    subst (λ (o : Option ActorSpec). HasOutport o k) (sym r.2) (omega (arith, below, outports_are r.0.kind))

inport_there : (parts : Parts) (net : Net) (n k : ℕ) (e : End) → IsNetwork parts net → IsActorPort parts side.In n k e → HasInport (slice_get net.actors n) k
inport_there parts net n k e is h =
    let r = port_there parts net side.In n k e is h in
    let below = r.3 in
    subst (λ (o : Option ActorSpec). HasInport o k) (sym r.2) (omega (arith, below, inports_are r.0.kind))

pub parts_joined : (parts : Parts) (net : Net) → IsNetwork parts net → All (HasPorts net.actors) net.connections
parts_joined parts net is = λ c j below.
    let k = get_or net.connections c j in
    let h = (is.connections k).0 (among_at net.connections c k (slice_get-get_or net.connections c j below)) in
    record { producer = outport_there parts net k.from k.out h.0 is h.2; consumer = inport_there parts net k.to k.inp h.1 is h.3 }

pub network_is_wired : (parts : Parts) (net : Net) → IsNetwork parts net → IsWired net
network_is_wired parts net is = wired_of net.actors net.connections (parts_joined parts net is) is.rising

-- ---- paths

apart_from : (a : Actor) (s : ActorSpec) (actors : List Actor) (specs : List ActorSpec) → IsSpec a s → IsPath a.path → AreSpecs actors specs → AllByRecursion (λ x. IsPath x.path) actors → (Among (map (λ x. x.path) actors) a.path → ⊥) → AllByRecursion (λ y. bytes_eq s.path y ≡ false) (path_list specs)
apart_from a s [] [] is name are names apart = tt
apart_from a s [] (t ∷ specs) is name are names apart = absurd are
apart_from a s (b ∷ actors) [] is name are names apart = absurd are
apart_from a s (b ∷ actors) (t ∷ specs) is name are names apart = (
  unequal (bytes_eq s.path t.path) (λ e. apart (inl (one_path b.path a.path names.0 name (sym are.0.path ∙ sym ((bytes_eq-Decides s.path t.path).0 e) ∙ is.path)))),
  apart_from a s actors specs is name are.1 names.1 (λ h. apart (inr h)),
)

distinct_paths : (actors : List Actor) (specs : List ActorSpec) → AreSpecs actors specs → AllByRecursion (λ x. IsPath x.path) actors → Distinct (map (λ x. x.path) actors) → IsDistinct bytes_eq (path_list specs)
unfolding IsDistinct
distinct_paths [] [] are names d = tt
distinct_paths [] (s ∷ specs) are names d = absurd are
distinct_paths (a ∷ actors) [] are names d = absurd are
distinct_paths (a ∷ actors) (s ∷ specs) are names d = (apart_from a s actors specs are.0 names.0 are.1 names.1 d.0, distinct_paths actors specs are.1 names.1 d.1)

first_distinct : {X : Type 0} (xs ys : List X) → Distinct (xs ++ ys) → Distinct xs
first_distinct [] ys d = tt
first_distinct (x ∷ xs) ys d = (λ h. d.0 (Among-append_left xs ys x h), first_distinct xs ys d.1)

-- ---- the whole

all_sound : (specs : List ActorSpec) → AllByRecursion IsSound specs → All IsSound specs
all_sound [] h i d below = absurd (omega arith)
all_sound (s ∷ specs) h zero d below = h.0
all_sound (s ∷ specs) h (suc i) d below = all_sound specs h.1 i d (omega arith)

pub is_well_formed : (parts : Parts) (net : Net) → IsFlat parts → IsNetwork parts net → AllByRecursion IsSound net.actors → AllByRecursion (λ a. IsPath a.path) parts.actors → length net.connections ≤ 4096 → IsWellFormed net
is_well_formed parts net flat is sound names few =
    let places = few_actors parts flat in
    let count = specs_length parts.actors net.actors is.actors in
    record {
      small = record { few_actors = omega (arith, places, count); few_connections = few };
      specs = all_sound net.actors sound;
      distinct = distinct_paths parts.actors net.actors is.actors names (first_distinct (map (λ (a : Actor). a.path) parts.actors) (map (λ (i : Instance). i.path) parts.instances) flat.distinct);
      wired = network_is_wired parts net is;
      rising = is.rising;
    }

-- The parts of the work together.
use Rattle.std.proofs.Common.{◌≡◌, ℕ, ◌<◌, ◌≤◌, List, [], ◌∷◌, ◌++◌, map, length, Option, Some, refl, sym, ◌∙◌, ap, subst, arith, append_assoc}
use Rattle.std.specs.BTreeMap.{BTreeMap}
use Rattle.std.proofs.lemmas.List.{length-map, map-append}
use Rattle.std.proofs.lemmas.Option.{slice_get_within}
use Rattle.cv_expand.specs.declared.flat.Actor.{Actor}
use Rattle.cv_expand.specs.declared.flat.Instance.{Instance}
use Rattle.cv_expand.specs.declared.flat.Parts.{Parts}
use Rattle.cv_expand.specs.declared.path.Step.{Step}
use Rattle.cv_expand.specs.Bodies.{Among, Distinct, paths}
use Rattle.cv_expand.specs.Flat.{IsFlat}
use Rattle.cv_graph.specs.declared.fault.GraphFault.{GraphFault}
use Rattle.cv_graph.specs.declared.port.Port.{Port}
use Rattle.cv_graph.specs.declared.port.Wire.{Wire}
use Rattle.cv_graph.specs.declared.ways.Supply.{Supply}
use Rattle.cv_graph.specs.declared.ways.Way.TheVariants as ways
use Rattle.cv_graph.specs.Checks.{Check, actor_checks, feed_checks, fed_checks, queue_checks, checks, AllHold}
use Rattle.cv_graph.specs.Faults.{Faulty}
use Rattle.cv_graph.specs.Links.{way_of, links_from}
use Rattle.cv_graph.specs.Ports.{Place, actor_place, instance_place, actor_places, instance_places, places}
use Rattle.cv_graph.specs.Tables.{AreWires, Indexed}
use Rattle.cv_graph.specs.Ways.{AreWithin}
use Rattle.cv_graph.proofs.Connecting.{links_few}
use Rattle.cv_graph.proofs.Following.{feed_at, goes_back, small_source}
use Rattle.cv_graph.proofs.Judging.{all_hold, faulty_front, faulty_behind}
use Rattle.cv_graph.proofs.Lists.{map_at, place_among}
use Rattle.cv_graph.proofs.Segments.{actor_path}

-- ---- the checks

pub fault_of_actors : (parts : Parts) (e : GraphFault) → Faulty parts (actor_checks parts.actors) e → Faulty parts (checks parts) e
fault_of_actors parts e h = faulty_front parts (actor_checks parts.actors) (feed_checks [] parts.feeds ++ (fed_checks parts.actors ++ queue_checks parts.actors)) e h

regrouped : (parts : Parts) → (feed_checks [] parts.feeds ++ fed_checks parts.actors) ++ queue_checks parts.actors ≡ feed_checks [] parts.feeds ++ (fed_checks parts.actors ++ queue_checks parts.actors)
regrouped parts = append_assoc (feed_checks [] parts.feeds) (fed_checks parts.actors) (queue_checks parts.actors)

pub fault_of_joins : (parts : Parts) (e : GraphFault) → AllHold parts (actor_checks parts.actors) → Faulty parts (feed_checks [] parts.feeds ++ fed_checks parts.actors) e → Faulty parts (checks parts) e
fault_of_joins parts e actors h =
    faulty_behind parts (actor_checks parts.actors) (feed_checks [] parts.feeds ++ (fed_checks parts.actors ++ queue_checks parts.actors)) e actors
    (subst (λ (cs : List Check). Faulty parts cs e) (regrouped parts) (faulty_front parts (feed_checks [] parts.feeds ++ fed_checks parts.actors) (queue_checks parts.actors) e h))

pub fault_of_queues : (parts : Parts) (e : GraphFault) → AllHold parts (actor_checks parts.actors) → AllHold parts (feed_checks [] parts.feeds ++ fed_checks parts.actors) → Faulty parts (queue_checks parts.actors) e → Faulty parts (checks parts) e
fault_of_queues parts e actors joins h =
    faulty_behind parts (actor_checks parts.actors) (feed_checks [] parts.feeds ++ (fed_checks parts.actors ++ queue_checks parts.actors)) e actors
    (subst (λ (cs : List Check). Faulty parts cs e) (regrouped parts) (faulty_behind parts (feed_checks [] parts.feeds ++ fed_checks parts.actors) (queue_checks parts.actors) e joins h))

pub no_fault : (parts : Parts) → AllHold parts (actor_checks parts.actors) → AllHold parts (feed_checks [] parts.feeds ++ fed_checks parts.actors) → AllHold parts (queue_checks parts.actors) → AllHold parts (checks parts)
no_fault parts actors joins queues =
    all_hold parts (actor_checks parts.actors) (feed_checks [] parts.feeds ++ (fed_checks parts.actors ++ queue_checks parts.actors)) actors
    (subst (λ (cs : List Check). AllHold parts cs) (regrouped parts) (all_hold parts (feed_checks [] parts.feeds ++ fed_checks parts.actors) (queue_checks parts.actors) joins queues))

-- ---- paths

actors_paths : (actors : List Actor) → map (λ (p : Place). p.path) (map actor_place actors) ≡ map (λ (a : Actor). a.path) actors
actors_paths [] = refl
actors_paths (a ∷ actors) = let first = actor_path a in let rest = actors_paths actors in (λ i. first i ∷ rest i)

instances_paths : (instances : List Instance) → map (λ (p : Place). p.path) (map instance_place instances) ≡ map (λ (i : Instance). i.path) instances
instances_paths [] = refl
instances_paths (i ∷ instances) = ap (λ (ps : List (List Step)). i.path ∷ ps) (instances_paths instances)

paths_are : (parts : Parts) → map (λ (p : Place). p.path) (places parts) ≡ paths parts
paths_are parts =
    let first = actors_paths parts.actors in
    let rest = instances_paths parts.instances in
    map-append (λ (p : Place). p.path) (actor_places parts) (instance_places parts) ∙ (λ i. first i ++ rest i)

pub places_apart : (parts : Parts) → Distinct (paths parts) → Distinct (map (λ p. p.path) (places parts))
places_apart parts h = subst Distinct (sym (paths_are parts)) h

pub few_actors : (parts : Parts) → IsFlat parts → length parts.actors ≤ 256
few_actors parts h = let few = h.few.places in omega (arith, few)

-- ---- ways

pub small_sources : (parts : Parts) (wires : List Wire) (w : Wire) (p : Port) → AreWires parts parts.feeds wires → Among wires w → w.source ≡ Some p → p.place < length parts.actors → p.number < 256
small_sources parts wires w p are among is less =
    let n = place_among wires w among in
    let f = feed_at parts parts.feeds wires n.0 w are n.1 in
    small_source parts f.0 w p f.2 is less

pub ways_within : (actors : ℕ) (m : BTreeMap Port ℕ) (wires : List Wire) → Indexed wires m → AreWithin (map (way_of actors m) wires)
ways_within actors m wires known = λ i j e.
    let w = map_at (way_of actors m) wires i (ways.Back j) e in
    let b = goes_back actors m w.0.source j w.2 in
    let v = (known b.0 j).0 b.2 in
    let inside = slice_get_within wires j v.0 v.1 in
    omega (arith, inside, length-map wires (way_of actors m))

pub few_links : (parts : Parts) (supply : ℕ → ℕ → Option Supply) → IsFlat parts → length (links_from supply 0 (actor_places parts)) ≤ 4096
few_links parts supply h =
    let few = few_actors parts h in
    let count = links_few parts supply in
    omega (arith, few, count, length-map parts.actors actor_place)

-- The parts of a script that has no fault are what paths lead to, at distinct paths.
use Rattle.std.proofs.Common.{◌≡◌, List, [], ◌∷◌, ◌++◌, inl, inr, Result, Ok, Err, refl, sym, subst}
use Rattle.std.specs.Prelude.{IfOk, map}
use Rattle.cv_token.specs.declared.pairs.Pair.{Pair}
use Rattle.cv_syntax.specs.declared.tree.Component.{Component}
use Rattle.cv_syntax.specs.declared.tree.Statement.{Statement}
use Rattle.cv_syntax.specs.declared.tree.Item.{Item}
use Rattle.cv_expand.specs.declared.fault.ExpandFault.{ExpandFault}
use Rattle.cv_expand.specs.declared.flat.Given.{Given}
use Rattle.cv_expand.specs.declared.path.Step.{Step}
use Rattle.cv_expand.specs.declared.flat.Parts.{Parts}
use Rattle.cv_expand.specs.declared.setting.World.{World}
use Rattle.cv_expand.specs.Walk.{Event, repeat_faults, bad, bads, actor_met, instance_met, feed_met, root_spot, walk}
use Rattle.cv_expand.specs.Components.{components_in}
use Rattle.cv_expand.specs.Heads.{defines_in, rule_names, statements_in, constants_from, define_faults, component_faults}
use Rattle.cv_expand.specs.Meaning.{world_of, root_faults, unwalked, meaning}
use Rattle.cv_expand.specs.Runs.{run, unless, Answers}
use Rattle.cv_expand.specs.Bodies.{Among, Distinct, at_root, LeadsTo, IsMadeOf, paths}
use Rattle.cv_expand.specs.Flat.{IsFlat}
use Rattle.cv_expand.proofs.Among.{Distinct-append}
use Rattle.cv_expand.proofs.Few.{few_made}
use Rattle.cv_expand.proofs.Meeting.{Has, met_where_led}
use Rattle.cv_expand.proofs.Leading.{NoBad, from_the_root, there}
use Rattle.cv_expand.proofs.Gathering.{gather, gathered, Among-gather, actor_in, instance_in, feed_in, is_actor, is_instance, is_feed, grown, no_bad, none_in_front}
use Rattle.cv_expand.proofs.Unless.{passed}
use Rattle.cv_expand.proofs.Places.{paths_of, distinct_paths}

walked : (script : List Item) (parts : Parts) → meaning script ≡ Ok parts → run (unwalked script) (walk (world_of script) root_spot (statements_in script)) ≡ Ok parts
walked script parts e = none_in_front (unwalked script) parts (root_faults script) (walk (world_of script) root_spot (statements_in script)) e

-- the walk meets just what paths lead to
met : (w : World) (root : List Statement) → NoBad (walk w root_spot root) → (e : Event) → ((fault : ExpandFault) → e ≡ bad fault → ⊥) → LeadsTo Has w root e → Among (walk w root_spot root) e
met w root good e other h =
    from_the_root w root good h.0 h.1 h.2 e
    (there w h.0 h.1 (λ fault b. good fault (from_the_root w root good h.0 h.1 h.2 (bad fault) b)) e other h.3)

pub made_of : (script : List Item) (parts : Parts) → meaning script ≡ Ok parts → IsMadeOf script parts
made_of script parts e =
    let w = world_of script in
    let root = statements_in script in
    let es : List Event = walk w root_spot root in
    let ran = walked script parts e in
    let good : NoBad es = no_bad (unwalked script) parts es ran in
    let all = grown (unwalked script) parts es ran in
    record {
      actors = λ a. (
        λ h. let r = gathered actor_in es a (subst (λ xs. Among xs a) all.actors_are h) in
            met_where_led w root root_spot root at_root (actor_met a) (subst (Among es) (is_actor r.0 a r.2) r.1),
        λ h. subst (λ xs. Among xs a) (sym all.actors_are) (Among-gather actor_in es (actor_met a) a (met w root good (actor_met a) (λ fault is. cc) h) (inl refl)),
      );
      instances = λ i. (
        λ h. let r = gathered instance_in es i (subst (λ xs. Among xs i) all.instances_are h) in
            met_where_led w root root_spot root at_root (instance_met i) (subst (Among es) (is_instance r.0 i r.2) r.1),
        λ h. subst (λ xs. Among xs i) (sym all.instances_are) (Among-gather instance_in es (instance_met i) i (met w root good (instance_met i) (λ fault is. cc) h) (inl refl)),
      );
      feeds = λ f. (
        λ h. let r = gathered feed_in es f (subst (λ xs. Among xs f) all.feeds_are h) in
            met_where_led w root root_spot root at_root (feed_met f) (subst (Among es) (is_feed r.0 f r.2) r.1),
        λ h. subst (λ xs. Among xs f) (sym all.feeds_are) (Among-gather feed_in es (feed_met f) f (met w root good (feed_met f) (λ fault is. cc) h) (inl refl)),
      );
      rules = all.rules_are;
      applies = all.applies_are;
    }

-- ---- paths by sort

abbrev actor_paths : List Event → List (List Step)
actor_paths es = map (λ a. a.path) (gather actor_in es)

abbrev instance_paths : List Event → List (List Step)
instance_paths es = map (λ i. i.path) (gather instance_in es)

actor_path : (es : List Event) (p : List Step) → Among (actor_paths es) p → Among (paths_of es) p
actor_path [] p h = absurd h
actor_path (actor_met a ∷ es) p (inl is) = inl is
actor_path (actor_met a ∷ es) p (inr h) = inr (actor_path es p h)
actor_path (instance_met i ∷ es) p h = inr (actor_path es p h)
actor_path (feed_met f ∷ es) p h = actor_path es p h
actor_path (bad fault ∷ es) p h = actor_path es p h

instance_path : (es : List Event) (p : List Step) → Among (instance_paths es) p → Among (paths_of es) p
instance_path [] p h = absurd h
instance_path (instance_met i ∷ es) p (inl is) = inl is
instance_path (instance_met i ∷ es) p (inr h) = inr (instance_path es p h)
instance_path (actor_met a ∷ es) p h = inr (instance_path es p h)
instance_path (feed_met f ∷ es) p h = instance_path es p h
instance_path (bad fault ∷ es) p h = instance_path es p h

distinct_actors : (es : List Event) → Distinct (paths_of es) → Distinct (actor_paths es)
distinct_actors [] d = tt
distinct_actors (actor_met a ∷ es) d = (λ h. d.0 (actor_path es a.path h), distinct_actors es d.1)
distinct_actors (instance_met i ∷ es) d = distinct_actors es d.1
distinct_actors (feed_met f ∷ es) d = distinct_actors es d
distinct_actors (bad fault ∷ es) d = distinct_actors es d

distinct_instances : (es : List Event) → Distinct (paths_of es) → Distinct (instance_paths es)
distinct_instances [] d = tt
distinct_instances (instance_met i ∷ es) d = (λ h. d.0 (instance_path es i.path h), distinct_instances es d.1)
distinct_instances (actor_met a ∷ es) d = distinct_instances es d.1
distinct_instances (feed_met f ∷ es) d = distinct_instances es d
distinct_instances (bad fault ∷ es) d = distinct_instances es d

sorts_apart : (es : List Event) → Distinct (paths_of es) → (p : List Step) → Among (actor_paths es) p → Among (instance_paths es) p → ⊥
sorts_apart [] d p a i = a
sorts_apart (actor_met x ∷ es) d p (inl is) i = d.0 (subst (Among (paths_of es)) (sym is) (instance_path es p i))
sorts_apart (actor_met x ∷ es) d p (inr a) i = sorts_apart es d.1 p a i
sorts_apart (instance_met x ∷ es) d p a (inl is) = d.0 (subst (Among (paths_of es)) (sym is) (actor_path es p a))
sorts_apart (instance_met x ∷ es) d p a (inr i) = sorts_apart es d.1 p a i
sorts_apart (feed_met f ∷ es) d p a i = sorts_apart es d p a i
sorts_apart (bad fault ∷ es) d p a i = sorts_apart es d p a i

pub distinct_of : (script : List Item) (parts : Parts) → meaning script ≡ Ok parts → Distinct (paths parts)
distinct_of script parts e =
    let es : List Event = walk (world_of script) root_spot (statements_in script) in
    let ran = walked script parts e in
    let all = grown (unwalked script) parts es ran in
    let d : Distinct (paths_of es) = distinct_paths (world_of script) root_spot (statements_in script) (no_bad (unwalked script) parts es ran) in
    subst (λ xs. Distinct (map (λ a. a.path) xs ++ map (λ i. i.path) parts.instances)) (sym all.actors_are)
    (subst (λ xs. Distinct (actor_paths es ++ map (λ i. i.path) xs)) (sym all.instances_are)
    (Distinct-append (actor_paths es) (instance_paths es) (distinct_actors es d) (distinct_instances es d) (sorts_apart es d)))

-- ---- of what is answered

-- where constants, components and rules have no fault, the answer of the walk is that of the script
pub whole : (script : List Item) (defines : List (Pair Given)) (components : List Component) (f : Parts) (x y z u : Unit {0}) (r : Result Parts ExpandFault)
    → unless (define_faults [] (defines_in script)) (constants_from [] (defines_in script)) ≡ Ok defines
    → unless (component_faults [] (components_in script)) x ≡ Ok y → unless (repeat_faults [] (rule_names script)) z ≡ Ok u
    → components ≡ components_in script → f ≡ unwalked script
    → Answers r (run f (walk (record { components = components; defines = defines }) root_spot (statements_in script)))
    → Answers r (meaning script)
whole script defines components f x y z u r constants heads rules found empty answer =
    let a = passed (define_faults [] (defines_in script)) (constants_from [] (defines_in script)) defines constants in
    let b = passed (component_faults [] (components_in script)) x y heads in
    let d = passed (repeat_faults [] (rule_names script)) z u rules in
    let known = rw (found, empty, ← a.1) at answer in
    rw (a.0, b.0, d.0) known

pub answer_made : (script : List Item) (r : Result Parts ExpandFault) → Answers r (meaning script) → IfOk r (λ parts. IsMadeOf script parts)
answer_made script (Ok parts) e = made_of script parts e
answer_made script (Err fault) e = tt

pub answer_flat : (script : List Item) (r : Result Parts ExpandFault) → Answers r (meaning script) → IfOk r IsFlat
answer_flat script (Ok parts) e = record { few = few_made script (bads (root_faults script) ++ walk (world_of script) root_spot (statements_in script)) parts e; distinct = distinct_of script parts e }
answer_flat script (Err fault) e = tt

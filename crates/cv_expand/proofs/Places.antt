-- Where no fault is met, no two actors or instances are at one path.
use Rattle.std.proofs.Common.{◌≡◌, ℕ, zero, suc, ◌+◌, ◌<◌, Bool, true, false, if◌then◌else◌, List, [], ◌∷◌, ◌++◌, length, Option, Some, None, ◌⊎◌, inl, inr, refl, sym, ◌∙◌, ap, subst, append_assoc, length-append, arith}
use Rattle.std.proofs.lemmas.List.{append-nil}
use Rattle.cv_syntax.specs.declared.tree.KindName.{KindName}
use Rattle.cv_syntax.specs.declared.tree.KindName.TheVariants as kinds
use Rattle.cv_syntax.specs.declared.tree.Declare.{Declare}
use Rattle.cv_syntax.specs.declared.tree.JoinSource.{JoinSource}
use Rattle.cv_syntax.specs.declared.tree.JoinSource.TheVariants as sources
use Rattle.cv_syntax.specs.declared.tree.Aim.{Aim}
use Rattle.cv_syntax.specs.declared.tree.Join.{Join}
use Rattle.cv_syntax.specs.declared.tree.Statement.{Statement}
use Rattle.cv_syntax.specs.declared.tree.Statement.TheVariants as statements
use Rattle.cv_syntax.specs.declared.tree.Component.{Component}
use Rattle.cv_expand.specs.declared.fault.ExpandFault.{ExpandFault}
use Rattle.cv_expand.specs.declared.fault.ExpandFault.TheVariants as faults
use Rattle.cv_expand.specs.declared.flat.Given.{Given}
use Rattle.cv_expand.specs.declared.path.Step.{Step}
use Rattle.cv_expand.specs.declared.path.Step.TheVariants as steps
use Rattle.cv_expand.specs.declared.setting.World.{World}
use Rattle.cv_expand.specs.declared.setting.Spot.{Spot}
use Rattle.cv_expand.specs.declared.setting.Seen.{Seen}
use Rattle.cv_expand.specs.Lookup.{has, only_if}
use Rattle.cv_expand.specs.Components.{component_of}
use Rattle.cv_expand.specs.Walk.{Event, Inner, bad, actor_met, instance_met, feed_met, bads, arg_names, repeat_faults, argument_faults, count_faults, places_of, declared_faults, source_faults, source_given, is_value, actor_at, dotted, constant_step, constant_events, feed_events, instance_at, inside, instance_events, component_events, kind_events, statement_events, seen_with, nothing_seen, body_events, closed, walk_at, walk}
use Rattle.cv_expand.specs.Bodies.{Among, Distinct}
use Rattle.cv_expand.proofs.Among.{Among-append_left, Among-append_right, Among-append_cases, Distinct-append}
use Rattle.cv_expand.proofs.Closing.{has-last, has-more}
use Rattle.cv_expand.proofs.Leading.{NoBad}
use Rattle.cv_expand.proofs.Gathering.{gather, gather-append}

abbrev pub path_in : Event → List (List Step)
path_in (actor_met a) = a.path ∷ []
path_in (instance_met i) = i.path ∷ []
path_in (bad fault) = []
path_in (feed_met f) = []

abbrev pub paths_of : List Event → List (List Step)
paths_of es = gather path_in es

-- no statement so far has this step
abbrev Free : Seen → Step → Type 0
Free seen (steps.Name n) = has seen.names n ≡ false
Free seen (steps.Constant k) = seen.constants < k

-- a path that goes on from another by a step of which F holds
abbrev Begins : List Step → (Step → Type 0) → List Step → Type 0
Begins path F p = (step : Step) × (rest : List Step) × (p ≡ path ++ step ∷ rest) × F step

record Good (path : List Step) (F : Step → Type 0) (ps : List (List Step)) : Type 0 where
  each : (p : List Step) → Among ps p → Begins path F p
  distinct : Distinct ps

good_nothing : (path : List Step) (F : Step → Type 0) → Good path F []
good_nothing path F = record { each = λ p h. absurd h; distinct = tt }

-- ---- lists of steps

same_step : (path : List Step) (a b : Step) (r q : List Step) → path ++ a ∷ r ≡ path ++ b ∷ q → a ≡ b
same_step [] a b r q e = cc
same_step (s ∷ path) a b r q e = same_step path a b r q cc

-- ---- one statement, and the rest of a body

-- the step of a statement is free before it, and is not behind it
abbrev Taken : Seen → Seen → Step → Type 0
Taken seen later step = Free seen step × (Free later step → ⊥)

apart : (path : List Step) (seen later : Seen) (p : List Step) → Begins path (Taken seen later) p → Begins path (Free later) p → ⊥
apart path seen later p a b =
    a.3.1 (subst (Free later) (sym (same_step path a.0 b.0 a.1 b.1 (sym a.2 ∙ b.2))) b.3)

either : (path : List Step) (seen later : Seen) → ((step : Step) → Free later step → Free seen step) → (ps qs : List (List Step)) → Good path (Taken seen later) ps → Good path (Free later) qs → (p : List Step) → Among ps p ⊎ Among qs p → Begins path (Free seen) p
either path seen later before ps qs good rest p (inl h) = let b = good.each p h in (b.0, b.1, b.2, b.3.0)
either path seen later before ps qs good rest p (inr h) = let b = rest.each p h in (b.0, b.1, b.2, before b.0 b.3)

one_and_rest : (path : List Step) (seen later : Seen) → ((step : Step) → Free later step → Free seen step) → (ps qs : List (List Step)) → Good path (Taken seen later) ps → Good path (Free later) qs → Good path (Free seen) (ps ++ qs)
one_and_rest path seen later before ps qs good rest = record {
  each = λ p h. either path seen later before ps qs good rest p (Among-append_cases ps qs p h);
  distinct = Distinct-append ps qs good.distinct rest.distinct (λ p left right. apart path seen later p (good.each p left) (rest.each p right));
}

-- ---- faults have no paths

paths-bads : (fs : List ExpandFault) (es : List Event) → paths_of (bads fs ++ es) ≡ paths_of es
paths-bads [] es = refl
paths-bads (f ∷ fs) es = paths-bads fs es

paths-feeds : (s : Spot) (seen : Seen) (j : Join) (aims : List Aim) → paths_of (feed_events s seen j aims) ≡ []
paths-feeds s seen j [] = refl
paths-feeds s seen j (aim ∷ aims) = paths-feeds s seen j aims

no_bad_left : (es gs : List Event) → NoBad (es ++ gs) → NoBad es
no_bad_left es gs good fault h = good fault (Among-append_left es gs (bad fault) h)

no_bad_right : (es gs : List Event) → NoBad (es ++ gs) → NoBad gs
no_bad_right es gs good fault h = good fault (Among-append_right es gs (bad fault) h)

-- ---- a declaration

new_name : (b : Bool) (fault : ExpandFault) (fs : List ExpandFault) (es : List Event) → NoBad (bads (only_if b fault ++ fs) ++ es) → b ≡ false
new_name true fault fs es good = absurd (good fault (inl refl))
new_name false fault fs es good = refl

-- a name is taken by what declares it
name_taken : (seen : Seen) (n : List ℕ) (constants : ℕ) → has seen.names n ≡ false → Taken seen (record { names = seen.names ++ n ∷ []; constants = constants }) (steps.Name n)
name_taken seen n constants new = (new, λ free. let there = has-last seen.names n in cc)

one_path : (path : List Step) (F : Step → Type 0) (step : Step) → F step → Good path F ((path ++ step ∷ []) ∷ [])
one_path path F step holds = record {
  each = λ p h. only p h;
  distinct = (λ h. h, tt);
}
  where
    only : (p : List Step) → Among ((path ++ step ∷ []) ∷ []) p → Begins path F p
    only p (inl is) = (step, [], sym is, holds)
    only p (inr h) = absurd h

inner_path : (path : List Step) (F G : Step → Type 0) (step : Step) → F step → (ps : List (List Step)) → Good (path ++ step ∷ []) G ps → (p : List Step) → ((path ++ step ∷ []) ≡ p) ⊎ Among ps p → Begins path F p
inner_path path F G step holds ps good p (inl is) = (step, [], sym is, holds)
inner_path path F G step holds ps good p (inr h) =
    let b = good.each p h in (step, b.0 ∷ b.1, b.2 ∙ append_assoc path (step ∷ []) (b.0 ∷ b.1), holds)

longer : (path rest : List Step) (step : Step) → path ≡ path ++ step ∷ rest → ⊥
longer path rest step e = let more = ap length e ∙ length-append path (step ∷ rest) in omega arith

-- an instance, and what stands in it
with_inner : (path : List Step) (F G : Step → Type 0) (step : Step) → F step → (ps : List (List Step)) → Good (path ++ step ∷ []) G ps → Good path F ((path ++ step ∷ []) ∷ ps)
with_inner path F G step holds ps good = record {
  each = λ p h. inner_path path F G step holds ps good p h;
  distinct = (λ h. let b = good.each (path ++ step ∷ []) h in longer (path ++ step ∷ []) b.1 b.0 b.2, good.distinct);
}

-- what inner bodies give is good
abbrev GoodWithin : Inner → Type 0
GoodWithin inner = (s : Spot) (body : List Statement) → NoBad (inner s body) → Good s.path (Free nothing_seen) (paths_of (inner s body))

open_good : (inner : Inner) → GoodWithin inner → (w : World) (s : Spot) (F : Step → Type 0) (d : Declare) → F (steps.Name d.name.text) → (n : List ℕ) (c : Component) (b : Bool) → NoBad (if b then bad (faults.Recursion d.name.at) ∷ [] else instance_events inner w s d n c) → Good s.path F (paths_of (if b then bad (faults.Recursion d.name.at) ∷ [] else instance_events inner w s d n c))
open_good inner good w s F d free n c true clear = good_nothing s.path F
open_good inner good w s F d free n c false clear =
    let fs = count_faults d c ++ argument_faults w s (Some (places_of c.args)) d.args in
    let es : List Event = inner (inside w s d n) c.body in
    let here = no_bad_right (bads fs) (instance_met (instance_at s d n c) ∷ es) clear in
    subst (Good s.path F) (sym (paths-bads fs (instance_met (instance_at s d n c) ∷ es)))
    (with_inner s.path F (Free nothing_seen) (steps.Name d.name.text) free (paths_of es) (good (inside w s d n) c.body (λ fault h. here fault (inr h))))

component_good : (inner : Inner) → GoodWithin inner → (w : World) (s : Spot) (F : Step → Type 0) (d : Declare) → F (steps.Name d.name.text) → (n : List ℕ) (o : Option Component) → NoBad (component_events inner w s d n o) → Good s.path F (paths_of (component_events inner w s d n o))
component_good inner good w s F d free n None clear = good_nothing s.path F
component_good inner good w s F d free n (Some c) clear = open_good inner good w s F d free n c (has s.opened n) clear

kind_good : (inner : Inner) → GoodWithin inner → (w : World) (s : Spot) (F : Step → Type 0) (d : Declare) → F (steps.Name d.name.text) → (k : KindName) → NoBad (kind_events inner w s d k) → Good s.path F (paths_of (kind_events inner w s d k))
kind_good inner good w s F d free (kinds.Dotted first second) clear =
    subst (Good s.path F) (sym (paths-bads (argument_faults w s None d.args) (actor_met (actor_at w s d (dotted first second)) ∷ []))) (one_path s.path F (steps.Name d.name.text) free)
kind_good inner good w s F d free (kinds.Plain n) clear = component_good inner good w s F d free n (component_of w.components n) clear

-- ---- a join

constant_taken : (seen : Seen) (b : Bool) → b ≡ true → Taken seen (record { names = seen.names; constants = if b then seen.constants + 1 else seen.constants }) (constant_step seen)
constant_taken seen true is = (omega arith, λ free. omega arith)
constant_taken seen false is = cc

given_is_value : (w : World) (s : Spot) (source : JoinSource) (given : Given) → source_given w s source ≡ Some given → is_value source ≡ true
given_is_value w s sources.Voidport given e = cc
given_is_value w s (sources.Own port) given e = cc
given_is_value w s (sources.Port actor port) given e = cc
given_is_value w s (sources.Name name) given e = refl
given_is_value w s (sources.Literal literal) given e = refl

constant_good : (w : World) (s : Spot) (seen : Seen) (j : Join) (o : Option Given) → source_given w s j.source ≡ o → Good s.path (Taken seen (seen_with seen (statements.Join j))) (paths_of (constant_events s seen j o))
constant_good w s seen j None is = good_nothing s.path (Taken seen (seen_with seen (statements.Join j)))
constant_good w s seen j (Some given) is = one_path s.path (Taken seen (seen_with seen (statements.Join j))) (constant_step seen) (constant_taken seen (is_value j.source) (given_is_value w s j.source given is))

paths-join : (w : World) (s : Spot) (seen : Seen) (j : Join) → paths_of (bads (source_faults w s j) ++ (constant_events s seen j (source_given w s j.source) ++ feed_events s seen j j.targets)) ≡ paths_of (constant_events s seen j (source_given w s j.source)) ++ []
paths-join w s seen j =
    paths-bads (source_faults w s j) (constant_events s seen j (source_given w s j.source) ++ feed_events s seen j j.targets)
    ∙ gather-append path_in (constant_events s seen j (source_given w s j.source)) (feed_events s seen j j.targets)
    ∙ ap (λ ps. paths_of (constant_events s seen j (source_given w s j.source)) ++ ps) (paths-feeds s seen j j.targets)

-- ---- bodies

statement_good : (inner : Inner) → GoodWithin inner → (w : World) (s : Spot) (seen : Seen) (x : Statement) → NoBad (statement_events inner w s seen x) → Good s.path (Taken seen (seen_with seen x)) (paths_of (statement_events inner w s seen x))
statement_good inner good w s seen (statements.Declare d) clear =
    let new = new_name (has seen.names d.name.text) (faults.DoubleName d.name.at) (repeat_faults [] (arg_names d.args)) (kind_events inner w s d d.kind) clear in
    subst (Good s.path (Taken seen (seen_with seen (statements.Declare d)))) (sym (paths-bads (declared_faults seen d) (kind_events inner w s d d.kind)))
    (kind_good inner good w s (Taken seen (seen_with seen (statements.Declare d))) d (name_taken seen d.name.text seen.constants new) d.kind (no_bad_right (bads (declared_faults seen d)) (kind_events inner w s d d.kind) clear))
statement_good inner good w s seen (statements.Join j) clear =
    subst (Good s.path (Taken seen (seen_with seen (statements.Join j)))) (sym (paths-join w s seen j ∙ append-nil (paths_of (constant_events s seen j (source_given w s j.source))))) (constant_good w s seen j (source_given w s j.source) refl)

fewer_names : (b : Bool) (names : List (List ℕ)) (n m : List ℕ) → has names m ≡ b → has (names ++ n ∷ []) m ≡ false → b ≡ false
fewer_names true names n m there none = let more = has-more names n m there in cc
fewer_names false names n m there none = refl

more_constants : (b : Bool) (n k : ℕ) → (if b then n + 1 else n) < k → n < k
more_constants true n k less = omega arith
more_constants false n k less = less

free_before : (seen : Seen) (x : Statement) (step : Step) → Free (seen_with seen x) step → Free seen step
free_before seen (statements.Declare d) (steps.Name m) free = fewer_names (has seen.names m) seen.names d.name.text m refl free
free_before seen (statements.Declare d) (steps.Constant k) free = free
free_before seen (statements.Join j) (steps.Name m) free = free
free_before seen (statements.Join j) (steps.Constant k) free = more_constants (is_value j.source) seen.constants k free

body_good : (inner : Inner) → GoodWithin inner → (w : World) (s : Spot) (seen : Seen) (body : List Statement) → NoBad (body_events inner w s seen body) → Good s.path (Free seen) (paths_of (body_events inner w s seen body))
body_good inner good w s seen [] clear = good_nothing s.path (Free seen)
body_good inner good w s seen (x ∷ body) clear =
    let es : List Event = statement_events inner w s seen x in
    let gs : List Event = body_events inner w s (seen_with seen x) body in
    subst (Good s.path (Free seen)) (sym (gather-append path_in es gs))
    (one_and_rest s.path seen (seen_with seen x) (free_before seen x) (paths_of es) (paths_of gs)
    (statement_good inner good w s seen x (no_bad_left es gs clear)) (body_good inner good w s (seen_with seen x) body (no_bad_right es gs clear)))

good_at : (n : ℕ) (w : World) (s : Spot) (body : List Statement) → NoBad (walk_at w n s body) → Good s.path (Free nothing_seen) (paths_of (walk_at w n s body))
unfolding walk_at
good_at zero w s body clear = good_nothing s.path (Free nothing_seen)
good_at (suc n) w s body clear = body_good (walk_at w n) (good_at n w) w s nothing_seen body clear

pub distinct_paths : (w : World) (s : Spot) (body : List Statement) → NoBad (walk w s body) → Distinct (paths_of (walk w s body))
unfolding walk
distinct_paths w s body clear = (good_at (suc (closed w.components s.opened)) w s body clear).distinct

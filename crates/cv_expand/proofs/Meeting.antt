-- What the walk meets stands in a body that a path leads to.
use Rattle.std.proofs.Common.{◌≡◌, ℕ, zero, suc, ◌+◌, Bool, true, false, if◌then◌else◌, List, [], ◌∷◌, ◌++◌, Option, Some, None, ◌⊎◌, inl, inr, refl, sym, ◌∙◌, ap, subst, append_assoc, arith}
use Rattle.cv_syntax.specs.declared.tree.KindName.{KindName}
use Rattle.cv_syntax.specs.declared.tree.KindName.TheVariants as kinds
use Rattle.cv_syntax.specs.declared.tree.Declare.{Declare}
use Rattle.cv_syntax.specs.declared.tree.JoinSource.{JoinSource}
use Rattle.cv_syntax.specs.declared.tree.JoinSource.TheVariants as sources
use Rattle.cv_syntax.specs.declared.tree.Aim.{Aim}
use Rattle.cv_syntax.specs.declared.tree.Join.{Join}
use Rattle.cv_syntax.specs.declared.tree.Statement.{Statement}
use Rattle.cv_syntax.specs.declared.tree.Statement.TheVariants as statements
use Rattle.cv_syntax.specs.declared.tree.Component.{Component}
use Rattle.cv_expand.specs.declared.fault.ExpandFault.{ExpandFault}
use Rattle.cv_expand.specs.declared.fault.ExpandFault.TheVariants as faults
use Rattle.cv_expand.specs.declared.flat.Given.{Given}
use Rattle.cv_expand.specs.declared.setting.World.{World}
use Rattle.cv_expand.specs.declared.setting.Spot.{Spot}
use Rattle.cv_expand.specs.declared.setting.Seen.{Seen}
use Rattle.cv_expand.specs.Lookup.{has}
use Rattle.cv_expand.specs.Components.{component_of}
use Rattle.cv_expand.specs.Walk.{Event, Inner, bad, actor_met, instance_met, feed_met, bads, argument_faults, count_faults, places_of, declared_faults, source_faults, is_value, source_given, actor_at, instance_at, inside, dotted, constant_at, constant_events, feed_at, feed_events, origin_of, instance_events, component_events, kind_events, statement_events, seen_with, nothing_seen, body_events, closed, walk_at, walk}
use Rattle.cv_expand.specs.Bodies.{Among, Leads, into, StandsBehind, value_join, value_joins, behind, HasActor, HasInstance, HasFeed, LeadsTo}
use Rattle.cv_expand.proofs.Among.{Among-append_right, Among-append_cases, Among-map_cases}

-- a body has what an event met; of faults nothing is said
abbrev pub Has : World → Spot → List Statement → Event → Type 0
Has w s body (bad fault) = Unit {0}
Has w s body (actor_met a) = HasActor w s body a
Has w s body (instance_met i) = HasInstance w s body i
Has w s body (feed_met f) = HasFeed w s body f

-- what inner bodies give is met where paths lead
abbrev MeetsWithin : World → List Statement → Inner → Type 0
MeetsWithin w root inner = (s : Spot) (body : List Statement) → Leads w root s body → (e : Event) → Among (inner s body) e → LeadsTo Has w root e

bads_met : (w : World) (root : List Statement) (s : Spot) (body : List Statement) → Leads w root s body → (fs : List ExpandFault) (e : Event) → Among (bads fs) e → LeadsTo Has w root e
bads_met w root s body leads [] e h = absurd h
bads_met w root s body leads (f ∷ fs) e (inl is) = subst (LeadsTo Has w root) is (s, body, leads, tt)
bads_met w root s body leads (f ∷ fs) e (inr h) = bads_met w root s body leads fs e h

-- behind faults
past_bads : (w : World) (root : List Statement) (s : Spot) (body : List Statement) → Leads w root s body → (fs : List ExpandFault) (es : List Event) (e : Event) → (Among es e → LeadsTo Has w root e) → Among (bads fs) e ⊎ Among es e → LeadsTo Has w root e
past_bads w root s body leads fs es e rest (inl h) = bads_met w root s body leads fs e h
past_bads w root s body leads fs es e rest (inr h) = rest h

kind_met : (w : World) (root : List Statement) (s : Spot) (body : List Statement) → Leads w root s body → (d : Declare) (first second : List ℕ) → Among body (statements.Declare d) → d.kind ≡ kinds.Dotted first second → (e : Event) → Among (actor_met (actor_at w s d (dotted first second)) ∷ []) e → LeadsTo Has w root e
kind_met w root s body leads d first second there is e (inl met) = subst (LeadsTo Has w root) met (s, body, leads, inl (d, first, second, there, is, refl))
kind_met w root s body leads d first second there is e (inr h) = absurd h

instance_met_or_within : (w : World) (root : List Statement) (inner : Inner) → MeetsWithin w root inner → (s : Spot) (body : List Statement) → Leads w root s body → (d : Declare) (n : List ℕ) (c : Component) → Among body (statements.Declare d) → d.kind ≡ kinds.Plain n → component_of w.components n ≡ Some c → (e : Event) → Among (instance_met (instance_at s d n c) ∷ inner (inside w s d n) c.body) e → LeadsTo Has w root e
instance_met_or_within w root inner within s body leads d n c there is found e (inl met) = subst (LeadsTo Has w root) met (s, body, leads, (d, n, c, there, is, found, refl))
instance_met_or_within w root inner within s body leads d n c there is found e (inr h) = within (inside w s d n) c.body (into s body d n c leads there is found) e h

opened_met : (w : World) (root : List Statement) (inner : Inner) → MeetsWithin w root inner → (s : Spot) (body : List Statement) → Leads w root s body → (d : Declare) (n : List ℕ) (c : Component) → Among body (statements.Declare d) → d.kind ≡ kinds.Plain n → component_of w.components n ≡ Some c → (b : Bool) (e : Event) → Among (if b then bad (faults.Recursion d.name.at) ∷ [] else instance_events inner w s d n c) e → LeadsTo Has w root e
opened_met w root inner within s body leads d n c there is found true e h = bads_met w root s body leads (faults.Recursion d.name.at ∷ []) e h
opened_met w root inner within s body leads d n c there is found false e h =
    let fs = count_faults d c ++ argument_faults w s (Some (places_of c.args)) d.args in
    let es : List Event = instance_met (instance_at s d n c) ∷ inner (inside w s d n) c.body in
    past_bads w root s body leads fs es e (instance_met_or_within w root inner within s body leads d n c there is found e) (Among-append_cases (bads fs) es e h)

component_met : (w : World) (root : List Statement) (inner : Inner) → MeetsWithin w root inner → (s : Spot) (body : List Statement) → Leads w root s body → (d : Declare) (n : List ℕ) → Among body (statements.Declare d) → d.kind ≡ kinds.Plain n → (o : Option Component) → component_of w.components n ≡ o → (e : Event) → Among (component_events inner w s d n o) e → LeadsTo Has w root e
component_met w root inner within s body leads d n there is None found e h = bads_met w root s body leads (faults.NoComponent d.name.at ∷ []) e h
component_met w root inner within s body leads d n there is (Some c) found e h = opened_met w root inner within s body leads d n c there is found (has s.opened n) e h

sort_met : (w : World) (root : List Statement) (inner : Inner) → MeetsWithin w root inner → (s : Spot) (body : List Statement) → Leads w root s body → (d : Declare) → Among body (statements.Declare d) → (k : KindName) → d.kind ≡ k → (e : Event) → Among (kind_events inner w s d k) e → LeadsTo Has w root e
sort_met w root inner within s body leads d there (kinds.Dotted first second) is e h =
    let es : List Event = actor_met (actor_at w s d (dotted first second)) ∷ [] in
    past_bads w root s body leads (argument_faults w s None d.args) es e (kind_met w root s body leads d first second there is e) (Among-append_cases (bads (argument_faults w s None d.args)) es e h)
sort_met w root inner within s body leads d there (kinds.Plain n) is e h = component_met w root inner within s body leads d n there is (component_of w.components n) refl e h

-- ---- joins

-- of what was met only the number of joins from a value matters to a join
pub same_origin : (seen later : Seen) (source : JoinSource) → seen.constants ≡ later.constants → origin_of seen source ≡ origin_of later source
same_origin seen later sources.Voidport same = refl
same_origin seen later (sources.Own port) same = refl
same_origin seen later (sources.Port actor port) same = refl
same_origin seen later (sources.Name name) same = rw same refl
same_origin seen later (sources.Literal literal) same = rw same refl

pub same_feed : (s : Spot) (seen later : Seen) (j : Join) (aim : Aim) → seen.constants ≡ later.constants → feed_at s seen j aim ≡ feed_at s later j aim
same_feed s seen later j aim same = ap (λ o. record { body = s.path; origin = o; at = j.at; target = aim.target; target_at = aim.at }) (same_origin seen later j.source same)

pub same_constant : (s : Spot) (seen later : Seen) (j : Join) (given : Given) → seen.constants ≡ later.constants → constant_at s seen j given ≡ constant_at s later j given
same_constant s seen later j given same = rw same refl

constant_met : (w : World) (root : List Statement) (s : Spot) (body : List Statement) → Leads w root s body → (before : List Statement) (seen : Seen) (j : Join) → StandsBehind body before (statements.Join j) → seen.constants ≡ value_joins before → (o : Option Given) → source_given w s j.source ≡ o → (e : Event) → Among (constant_events s seen j o) e → LeadsTo Has w root e
constant_met w root s body leads before seen j there same None is e h = absurd h
constant_met w root s body leads before seen j there same (Some given) is e (inl met) =
    subst (LeadsTo Has w root) met (s, body, leads, inr (before, j, given, there, is, same_constant s seen (behind before) j given same))
constant_met w root s body leads before seen j there same (Some given) is e (inr h) = absurd h

feed_met_there : (w : World) (root : List Statement) (s : Spot) (body : List Statement) → Leads w root s body → (before : List Statement) (seen : Seen) (j : Join) → StandsBehind body before (statements.Join j) → seen.constants ≡ value_joins before → (e : Event) → Among (feed_events s seen j j.targets) e → LeadsTo Has w root e
feed_met_there w root s body leads before seen j there same e h =
    let r = Among-map_cases (λ aim. feed_met (feed_at s seen j aim)) j.targets e h in
    subst (LeadsTo Has w root) r.2 (s, body, leads, (before, j, r.0, there, r.1, same_feed s seen (behind before) j r.0 same))

constant_or_feed : (w : World) (root : List Statement) (s : Spot) (body : List Statement) → Leads w root s body → (before : List Statement) (seen : Seen) (j : Join) → StandsBehind body before (statements.Join j) → seen.constants ≡ value_joins before → (e : Event) → Among (constant_events s seen j (source_given w s j.source)) e ⊎ Among (feed_events s seen j j.targets) e → LeadsTo Has w root e
constant_or_feed w root s body leads before seen j there same e (inl h) = constant_met w root s body leads before seen j there same (source_given w s j.source) refl e h
constant_or_feed w root s body leads before seen j there same e (inr h) = feed_met_there w root s body leads before seen j there same e h

-- ---- bodies

statement_met : (w : World) (root : List Statement) (inner : Inner) → MeetsWithin w root inner → (s : Spot) (body : List Statement) → Leads w root s body → (before : List Statement) (seen : Seen) (x : Statement) → StandsBehind body before x → Among body x → seen.constants ≡ value_joins before → (e : Event) → Among (statement_events inner w s seen x) e → LeadsTo Has w root e
statement_met w root inner within s body leads before seen (statements.Declare d) behind_it there same e h =
    past_bads w root s body leads (declared_faults seen d) (kind_events inner w s d d.kind) e (sort_met w root inner within s body leads d there d.kind refl e) (Among-append_cases (bads (declared_faults seen d)) (kind_events inner w s d d.kind) e h)
statement_met w root inner within s body leads before seen (statements.Join j) behind_it there same e h =
    let es : List Event = constant_events s seen j (source_given w s j.source) ++ feed_events s seen j j.targets in
    past_bads w root s body leads (source_faults w s j) es e
    (λ g. constant_or_feed w root s body leads before seen j behind_it same e (Among-append_cases (constant_events s seen j (source_given w s j.source)) (feed_events s seen j j.targets) e g))
    (Among-append_cases (bads (source_faults w s j)) es e h)

one_or_none : (b : Bool) (n : ℕ) → (if b then n + 1 else n) ≡ n + (if b then 1 else 0)
one_or_none true n = refl
one_or_none false n = omega arith

pub constants-seen_with : (seen : Seen) (x : Statement) → (seen_with seen x).constants ≡ seen.constants + value_join x
constants-seen_with seen (statements.Declare d) = omega arith
constants-seen_with seen (statements.Join j) = one_or_none (is_value j.source) seen.constants

value_joins-push : (before : List Statement) (x : Statement) → value_joins (before ++ x ∷ []) ≡ value_joins before + value_join x
value_joins-push [] x = omega arith
value_joins-push (y ∷ before) x = let rest = value_joins-push before x in omega arith

body_met : (w : World) (root : List Statement) (inner : Inner) → MeetsWithin w root inner → (s : Spot) (body : List Statement) → Leads w root s body → (before rest : List Statement) (seen : Seen) → body ≡ before ++ rest → seen.constants ≡ value_joins before → (e : Event) → Among (body_events inner w s seen rest) e → LeadsTo Has w root e
body_met w root inner within s body leads before [] seen split same e h = absurd h
body_met w root inner within s body leads before (x ∷ rest) seen split same e h =
    elim (Among-append_cases (statement_events inner w s seen x) (body_events inner w s (seen_with seen x) rest) e h) [
      | inl here ↦
          statement_met w root inner within s body leads before seen x (rest, split) (subst (λ b. Among b x) (sym split) (Among-append_right before (x ∷ rest) x (inl refl))) same e here
      | inr later ↦
          body_met w root inner within s body leads (before ++ x ∷ []) rest (seen_with seen x) (split ∙ sym (append_assoc before (x ∷ []) rest))
          (constants-seen_with seen x ∙ ap (λ n. n + value_join x) same ∙ sym (value_joins-push before x)) e later
    ]

met_at : (n : ℕ) (w : World) (root : List Statement) (s : Spot) (body : List Statement) → Leads w root s body → (e : Event) → Among (walk_at w n s body) e → LeadsTo Has w root e
unfolding walk_at
met_at zero w root s body leads e h = absurd h
met_at (suc n) w root s body leads e h = body_met w root (walk_at w n) (met_at n w root) s body leads [] body nothing_seen refl refl e h

pub met_where_led : (w : World) (root : List Statement) (s : Spot) (body : List Statement) → Leads w root s body → (e : Event) → Among (walk w s body) e → LeadsTo Has w root e
unfolding walk
met_where_led w root s body leads e h = met_at (suc (closed w.components s.opened)) w root s body leads e h

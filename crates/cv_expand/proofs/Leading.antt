-- What stands in a body that a path leads to is met on the walk, where it meets no fault.
use Rattle.std.proofs.Common.{◌≡◌, ℕ, ◌+◌, Bool, true, false, if◌then◌else◌, List, [], ◌∷◌, ◌++◌, Some, None, inl, inr, refl, sym, ◌∙◌, ap, subst, arith}
use Rattle.cv_syntax.specs.declared.tree.KindName.TheVariants as kinds
use Rattle.cv_syntax.specs.declared.tree.Declare.{Declare}
use Rattle.cv_syntax.specs.declared.tree.Aim.{Aim}
use Rattle.cv_syntax.specs.declared.tree.Join.{Join}
use Rattle.cv_syntax.specs.declared.tree.Statement.{Statement}
use Rattle.cv_syntax.specs.declared.tree.Statement.TheVariants as statements
use Rattle.cv_syntax.specs.declared.tree.Component.{Component}
use Rattle.cv_expand.specs.declared.fault.ExpandFault.{ExpandFault}
use Rattle.cv_expand.specs.declared.fault.ExpandFault.TheVariants as faults
use Rattle.cv_expand.specs.declared.flat.Given.{Given}
use Rattle.cv_expand.specs.declared.setting.World.{World}
use Rattle.cv_expand.specs.declared.setting.Spot.{Spot}
use Rattle.cv_expand.specs.declared.setting.Seen.{Seen}
use Rattle.cv_expand.specs.Lookup.{has}
use Rattle.cv_expand.specs.Components.{component_of}
use Rattle.cv_expand.specs.Walk.{Event, Inner, bad, actor_met, instance_met, feed_met, bads, argument_faults, count_faults, places_of, declared_faults, source_faults, source_given, actor_at, instance_at, inside, dotted, constant_at, constant_events, feed_at, feed_events, instance_events, component_events, kind_events, statement_events, seen_with, nothing_seen, body_events, root_spot, walk}
use Rattle.cv_expand.specs.Bodies.{Among, Leads, at_root, into, value_joins, behind, HasActor}
use Rattle.cv_expand.proofs.Among.{Among-append_left, Among-append_right, Among-map}
use Rattle.cv_expand.proofs.Meeting.{Has, constants-seen_with, same_feed, same_constant}
use Rattle.cv_expand.proofs.Walks.{walk_is}

-- these meet no fault
abbrev pub NoBad : List Event → Type 0
NoBad es = (fault : ExpandFault) → Among es (bad fault) → ⊥

-- what a statement gives whatever was met before
in_body : (inner : Inner) (w : World) (s : Spot) (body : List Statement) (x : Statement) (e : Event) → Among body x → ((seen : Seen) → Among (statement_events inner w s seen x) e) → (seen : Seen) → Among (body_events inner w s seen body) e
in_body inner w s [] x e there gives seen = absurd there
in_body inner w s (y ∷ body) x e (inl is) gives seen =
    Among-append_left (statement_events inner w s seen y) (body_events inner w s (seen_with seen y) body) e (subst (λ z. Among (statement_events inner w s seen z) e) (sym is) (gives seen))
in_body inner w s (y ∷ body) x e (inr there) gives seen =
    Among-append_right (statement_events inner w s seen y) (body_events inner w s (seen_with seen y) body) e (in_body inner w s body x e there gives (seen_with seen y))

-- what a statement gives behind so many joins from a value
in_body_behind : (inner : Inner) (w : World) (s : Spot) (before after : List Statement) (x : Statement) (e : Event) (seen : Seen) → ((later : Seen) → later.constants ≡ seen.constants + value_joins before → Among (statement_events inner w s later x) e) → Among (body_events inner w s seen (before ++ x ∷ after)) e
in_body_behind inner w s [] after x e seen gives =
    Among-append_left (statement_events inner w s seen x) (body_events inner w s (seen_with seen x) after) e (gives seen (omega arith))
in_body_behind inner w s (y ∷ before) after x e seen gives =
    Among-append_right (statement_events inner w s seen y) (body_events inner w s (seen_with seen y) (before ++ x ∷ after)) e
    (in_body_behind inner w s before after x e (seen_with seen y) (λ later same. gives later (let more = constants-seen_with seen y in omega arith)))

-- ---- a component's body

open_or_within : (inner : Inner) (w : World) (s : Spot) (d : Declare) (n : List ℕ) (c : Component) (b : Bool) (e : Event) → Among (if b then bad (faults.Recursion d.name.at) ∷ [] else instance_met (instance_at s d n c) ∷ inner (inside w s d n) c.body) e → Among (if b then bad (faults.Recursion d.name.at) ∷ [] else instance_events inner w s d n c) e
open_or_within inner w s d n c true e h = h
open_or_within inner w s d n c false e h =
    Among-append_right (bads (count_faults d c ++ argument_faults w s (Some (places_of c.args)) d.args)) (instance_met (instance_at s d n c) ∷ inner (inside w s d n) c.body) e h

within_body : (inner : Inner) (w : World) (s : Spot) (seen : Seen) (body : List Statement) (d : Declare) (n : List ℕ) (c : Component) → Among body (statements.Declare d) → d.kind ≡ kinds.Plain n → component_of w.components n ≡ Some c → (b : Bool) → has s.opened n ≡ b → (e : Event) → Among (if b then bad (faults.Recursion d.name.at) ∷ [] else instance_met (instance_at s d n c) ∷ inner (inside w s d n) c.body) e → Among (body_events inner w s seen body) e
within_body inner w s seen body d n c there is found b closed e h =
    in_body inner w s body (statements.Declare d) e there
    (λ later. Among-append_right (bads (declared_faults later d)) (kind_events inner w s d d.kind) e
    (subst (λ k. Among (kind_events inner w s d k) e) (sym is)
    (subst (λ o. Among (component_events inner w s d n o) e) (sym found)
    (subst (λ q. Among (if q then bad (faults.Recursion d.name.at) ∷ [] else instance_events inner w s d n c) e) (sym closed) (open_or_within inner w s d n c b e h)))))
    seen

not_open : (inner : Inner) (w : World) (s : Spot) (seen : Seen) (body : List Statement) (d : Declare) (n : List ℕ) (c : Component) → Among body (statements.Declare d) → d.kind ≡ kinds.Plain n → component_of w.components n ≡ Some c → NoBad (body_events inner w s seen body) → (b : Bool) → has s.opened n ≡ b → has s.opened n ≡ false
not_open inner w s seen body d n c there is found good true opened =
    absurd (good (faults.Recursion d.name.at) (within_body inner w s seen body d n c there is found true opened (bad (faults.Recursion d.name.at)) (inl refl)))
not_open inner w s seen body d n c there is found good false shut = shut

-- an instance and what stands in it
within : (w : World) (s : Spot) (body : List Statement) (d : Declare) (n : List ℕ) (c : Component) → Among body (statements.Declare d) → d.kind ≡ kinds.Plain n → component_of w.components n ≡ Some c → NoBad (walk w s body) → (e : Event) → Among (instance_met (instance_at s d n c) ∷ walk w (inside w s d n) c.body) e → Among (walk w s body) e
within w s body d n c there is found good e h =
    let here = subst NoBad (walk_is w s body) good in
    let shut = not_open (walk w) w s nothing_seen body d n c there is found here (has s.opened n) refl in
    subst (λ es. Among es e) (sym (walk_is w s body)) (within_body (walk w) w s nothing_seen body d n c there is found false shut e h)

-- what is met in a body that a path leads to is met from the root on
pub from_the_root : (w : World) (root : List Statement) → NoBad (walk w root_spot root) → (s : Spot) (body : List Statement) → Leads w root s body → (e : Event) → Among (walk w s body) e → Among (walk w root_spot root) e
from_the_root w root good _ _ at_root e h = h
from_the_root w root good _ _ (into s body d n c leads there is found) e h =
    from_the_root w root good s body leads e (within w s body d n c there is found (λ fault b. good fault (from_the_root w root good s body leads (bad fault) b)) e (inr h))

-- ---- what a body has

declared_there : (inner : Inner) (w : World) (s : Spot) (body : List Statement) (d : Declare) (first second : List ℕ) → Among body (statements.Declare d) → d.kind ≡ kinds.Dotted first second → Among (body_events inner w s nothing_seen body) (actor_met (actor_at w s d (dotted first second)))
declared_there inner w s body d first second there is =
    let e = actor_met (actor_at w s d (dotted first second)) in
    in_body inner w s body (statements.Declare d) e there
    (λ later. Among-append_right (bads (declared_faults later d)) (kind_events inner w s d d.kind) e
    (subst (λ k. Among (kind_events inner w s d k) e) (sym is) (Among-append_right (bads (argument_faults w s None d.args)) (e ∷ []) e (inl refl))))
    nothing_seen

constant_there : (inner : Inner) (w : World) (s : Spot) (before after : List Statement) (j : Join) (given : Given) → source_given w s j.source ≡ Some given → Among (body_events inner w s nothing_seen (before ++ statements.Join j ∷ after)) (actor_met (constant_at s (behind before) j given))
constant_there inner w s before after j given is =
    let e = actor_met (constant_at s (behind before) j given) in
    in_body_behind inner w s before after (statements.Join j) e nothing_seen
    (λ later same. Among-append_right (bads (source_faults w s j)) (constant_events s later j (source_given w s j.source) ++ feed_events s later j j.targets) e
    (Among-append_left (constant_events s later j (source_given w s j.source)) (feed_events s later j j.targets) e
    (subst (λ o. Among (constant_events s later j o) e) (sym is) (inl (ap actor_met (same_constant s later (behind before) j given (omega arith)))))))

feed_there : (inner : Inner) (w : World) (s : Spot) (before after : List Statement) (j : Join) (aim : Aim) → Among j.targets aim → Among (body_events inner w s nothing_seen (before ++ statements.Join j ∷ after)) (feed_met (feed_at s (behind before) j aim))
feed_there inner w s before after j aim there =
    let e = feed_met (feed_at s (behind before) j aim) in
    in_body_behind inner w s before after (statements.Join j) e nothing_seen
    (λ later same. Among-append_right (bads (source_faults w s j)) (constant_events s later j (source_given w s j.source) ++ feed_events s later j j.targets) e
    (Among-append_right (constant_events s later j (source_given w s j.source)) (feed_events s later j j.targets) e
    (subst (λ f. Among (feed_events s later j j.targets) (feed_met f)) (same_feed s later (behind before) j aim (omega arith))
    (Among-map (λ a. feed_met (feed_at s later j a)) j.targets aim there))))

actor_there : (w : World) (s : Spot) (body : List Statement) (e : Event) → (a : _) → HasActor w s body a → e ≡ actor_met a → Among (body_events (walk w) w s nothing_seen body) e
actor_there w s body e a (inl h) is =
    subst (Among (body_events (walk w) w s nothing_seen body)) (ap actor_met (sym h.5) ∙ sym is) (declared_there (walk w) w s body h.0 h.1 h.2 h.3 h.4)
actor_there w s body e a (inr h) is =
    subst (λ b. Among (body_events (walk w) w s nothing_seen b) e) (sym h.3.1)
    (subst (Among (body_events (walk w) w s nothing_seen (h.0 ++ statements.Join h.1 ∷ h.3.0))) (ap actor_met (sym h.5) ∙ sym is) (constant_there (walk w) w s h.0 h.3.0 h.1 h.2 h.4))

-- no fault is met, and the body has it
pub there : (w : World) (s : Spot) (body : List Statement) → NoBad (walk w s body) → (e : Event) → ((fault : ExpandFault) → e ≡ bad fault → ⊥) → Has w s body e → Among (walk w s body) e
there w s body good (bad fault) met h = absurd (met fault refl)
there w s body good (actor_met a) met h = subst (λ es. Among es (actor_met a)) (sym (walk_is w s body)) (actor_there w s body (actor_met a) a h refl)
there w s body good (instance_met i) met h =
    subst (λ x. Among (walk w s body) (instance_met x)) (sym h.6) (within w s body h.0 h.1 h.2 h.3 h.4 h.5 good (instance_met (instance_at s h.0 h.1 h.2)) (inl refl))
there w s body good (feed_met f) met h =
    subst (λ es. Among es (feed_met f)) (sym (walk_is w s body))
    (subst (λ b. Among (body_events (walk w) w s nothing_seen b) (feed_met f)) (sym h.3.1)
    (subst (λ x. Among (body_events (walk w) w s nothing_seen (h.0 ++ statements.Join h.1 ∷ h.3.0)) (feed_met x)) (sym h.5) (feed_there (walk w) w s h.0 h.3.0 h.1 h.2 h.4)))

-- The walk of a body is its statements' events, with the walk of each inner body in its place.
use Rattle.std.proofs.Common.{◌≡◌, ℕ, zero, suc, ◌≤◌, Bool, true, false, if◌then◌else◌, List, [], ◌∷◌, ◌++◌, Option, Some, None, refl, sym, ◌∙◌, ap, arith}
use Rattle.cv_syntax.specs.declared.tree.Declare.{Declare}
use Rattle.cv_syntax.specs.declared.tree.KindName.{KindName}
use Rattle.cv_syntax.specs.declared.tree.KindName.TheVariants as kinds
use Rattle.cv_syntax.specs.declared.tree.Statement.{Statement}
use Rattle.cv_syntax.specs.declared.tree.Statement.TheVariants as statements
use Rattle.cv_syntax.specs.declared.tree.Component.{Component}
use Rattle.cv_expand.specs.declared.fault.ExpandFault.TheVariants as faults
use Rattle.cv_expand.specs.declared.flat.Argument.{Argument}
use Rattle.cv_expand.specs.declared.setting.World.{World}
use Rattle.cv_expand.specs.declared.setting.Spot.{Spot}
use Rattle.cv_expand.specs.declared.setting.Seen.{Seen}
use Rattle.cv_expand.specs.Lookup.{has}
use Rattle.cv_expand.specs.Components.{component_of}
use Rattle.cv_expand.specs.Walk.{Inner, bad, bads, instance_met, declared_faults, count_faults, argument_faults, places_of, arguments, instance_at, instance_events, component_events, kind_events, statement_events, seen_with, nothing_seen, body_events, closed, inside_with, walk_at, walk}
use Rattle.cv_expand.proofs.Closing.{closed_falls}

-- two ways to walk inner bodies are alike where a component is found that is not open
record Alike (w : World) (s : Spot) (f g : Inner) : Type 0 where
  same : (d : Declare) (n : List ℕ) (args : List Argument) (c : Component) → component_of w.components n ≡ Some c → has s.opened n ≡ false → f (inside_with s d n args) c.body ≡ g (inside_with s d n args) c.body

alike_open : (w : World) (s : Spot) (f g : Inner) → Alike w s f g → (d : Declare) (n : List ℕ) (c : Component) (b : Bool) → component_of w.components n ≡ Some c → has s.opened n ≡ b → (if b then bad (faults.Recursion d.name.at) ∷ [] else instance_events f w s d n c) ≡ (if b then bad (faults.Recursion d.name.at) ∷ [] else instance_events g w s d n c)
alike_open w s f g alike d n c true found shut = refl
alike_open w s f g alike d n c false found shut =
    ap (λ es. bads (count_faults d c ++ argument_faults w s (Some (places_of c.args)) d.args) ++ (instance_met (instance_at s d n c) ∷ es)) (alike.same d n (arguments w s d.args) c found shut)

alike_component : (w : World) (s : Spot) (f g : Inner) → Alike w s f g → (d : Declare) (n : List ℕ) (o : Option Component) → component_of w.components n ≡ o → component_events f w s d n o ≡ component_events g w s d n o
alike_component w s f g alike d n None found = refl
alike_component w s f g alike d n (Some c) found = alike_open w s f g alike d n c (has s.opened n) found refl

alike_kind : (w : World) (s : Spot) (f g : Inner) → Alike w s f g → (d : Declare) (k : KindName) → kind_events f w s d k ≡ kind_events g w s d k
alike_kind w s f g alike d (kinds.Dotted a b) = refl
alike_kind w s f g alike d (kinds.Plain n) = alike_component w s f g alike d n (component_of w.components n) refl

alike_statement : (w : World) (s : Spot) (f g : Inner) → Alike w s f g → (seen : Seen) (x : Statement) → statement_events f w s seen x ≡ statement_events g w s seen x
alike_statement w s f g alike seen (statements.Join j) = refl
alike_statement w s f g alike seen (statements.Declare d) = ap (λ es. bads (declared_faults seen d) ++ es) (alike_kind w s f g alike d d.kind)

alike_body : (w : World) (s : Spot) (f g : Inner) → Alike w s f g → (seen : Seen) (body : List Statement) → body_events f w s seen body ≡ body_events g w s seen body
alike_body w s f g alike seen [] = refl
alike_body w s f g alike seen (x ∷ body) =
    ap (λ es. es ++ body_events f w s (seen_with seen x) body) (alike_statement w s f g alike seen x)
    ∙ ap (λ es. statement_events g w s seen x ++ es) (alike_body w s f g alike (seen_with seen x) body)

-- as many levels as there are closed components are enough
enough : (k j : ℕ) (w : World) (s : Spot) (body : List Statement) → j ≤ k → suc (closed w.components s.opened) ≤ j → walk_at w j s body ≡ walk w s body
unfolding walk_at walk
enough zero zero w s body below deep = absurd (omega arith)
enough zero (suc i) w s body below deep = absurd (omega arith)
enough (suc k) zero w s body below deep = absurd (omega arith)
enough (suc k) (suc i) w s body below deep =
    alike_body w s (walk_at w i) (walk_at w (closed w.components s.opened)) (record {
      same = λ d n args c found shut.
          let less = closed_falls w.components s.opened n c found shut in
          enough k i w (inside_with s d n args) c.body (omega arith) (omega arith)
          ∙ sym (enough k (closed w.components s.opened) w (inside_with s d n args) c.body (omega arith) (omega arith));
    }) nothing_seen body

pub walk_is : (w : World) (s : Spot) (body : List Statement) → walk w s body ≡ body_events (walk w) w s nothing_seen body
unfolding walk_at walk
walk_is w s body =
    alike_body w s (walk_at w (closed w.components s.opened)) (walk w) (record {
      same = λ d n args c found shut.
          let less = closed_falls w.components s.opened n c found shut in
          enough (closed w.components s.opened) (closed w.components s.opened) w (inside_with s d n args) c.body (omega arith) (omega arith);
    }) nothing_seen body

use Rattle.std.proofs.Common.{◌≡◌, true, ℕ, List, if◌then◌else◌, string_bytes, take, refl, sym, ◌∙◌, ap, subst}
use Rattle.std.specs.BTreeSet.{contains_text}
use Rattle.std.specs.Str.{bytes_eq}
use Rattle.std.proofs.lemmas.Map.Text.{btree_set_updates_text}
use Rattle.cv_kinds.specs.WellFormed.{path_list}
use Rattle.cv_kinds.proofs.Distinct.{has_path, distinct_nil, more_distinct, repeated, seen_more}
use Rattle.cv_kinds.proofs.forming.are_distinct.Goals as goal

pub loop-actor-init : goal.loop-actor-init
loop-actor-init c = record { seen = λ path. rw c.new-seen.ensures.empty refl; distinct = distinct_nil }

pub returns-then-contains : goal.returns-then-contains
returns-then-contains c =
    let before = path_list (take c.loop-actor.actor-index c.args.actors.now) in
    let seen = ap (has_path before) (sym c.as_str-path.ensures) ∙ sym (c.loop-actor.invariant.seen c.as_str-path.result.now) ∙ sym c.contains.ensures ∙ c.if-contains.true in
    (λ t. absurd (cc), λ d. absurd (repeated c.args.actors.now c.loop-actor.actor-index c.actor-item.result c.loop-actor-test.true c.actor-item.is seen d))

pub loop-actor-preserved : goal.loop-actor-preserved
loop-actor-preserved c =
    let actors = c.args.actors.now in
    let i = c.loop-actor.actor-index in
    let a = c.actor-item.result in
    let before = path_list (take i actors) in
    let text : string_bytes c.in_ok-from_str.field-0 ≡ a.path = c.in_ok-from_str.ensures.ok ∙ c.as_str-path.ensures in
    let new = ap (has_path before) (sym c.as_str-path.ensures) ∙ sym (c.loop-actor.invariant.seen c.as_str-path.result.now) ∙ sym c.contains.ensures ∙ c.if-contains.false in
    record {
      seen = λ path.
          let now = btree_set_updates_text (string_bytes c.in_ok-from_str.field-0) c.loop-actor.seen c.insert.new.self true c.in_ok-insert.ensures.updates path in
          seen_more actors i a path (contains_text c.loop-actor.seen path) (contains_text c.insert.new.self path) c.loop-actor-test.true c.actor-item.is (c.loop-actor.invariant.seen path)
          (subst (λ (bs : List ℕ). contains_text c.insert.new.self path ≡ (if bytes_eq bs path then true else contains_text c.loop-actor.seen path)) text now);
      distinct = more_distinct actors i a c.loop-actor-test.true c.actor-item.is new c.loop-actor.invariant.distinct;
    }

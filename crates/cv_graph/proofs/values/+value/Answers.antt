use Rattle.std.proofs.Common.{◌≡◌, ◌+◌, ◌∷◌, drop, sym, ap, ◌∙◌, string_bytes}
use Rattle.std.proofs.lemmas.List.{drop_more}
use Rattle.serde_json.specs.Data.{put}
use Rattle.serde_json.specs.View.{members_view}
use Rattle.serde_json.proofs.Views.{members_view-insert_entry}
use Rattle.cv_token.specs.Forms.{on_values}
use Rattle.cv_graph.specs.Values.{data_of, put_all}
use Rattle.cv_graph.proofs.values.+value.Goals as goal

pub members_of-loop-pair-preserved : goal.members_of-loop-pair-preserved
members_of-loop-pair-preserved t c =
    let xs = c.as_slice-pair-items.result.now in
    let i = c.loop-pair.pair-index in
    let p = c.pair-item.result in
    let old = c.loop-pair.members.entries in
    let rest = drop (i + 1) xs in
    let next : drop i xs ≡ p ∷ rest = drop_more xs i p c.loop-pair-test.true ∙ ap (λ x. x ∷ rest) (sym c.pair-item.is) in
    let named : string_bytes c.in_ok-name.name ≡ p.key = c.in_ok-name.ensures.ok ∙ c.as_str.ensures in
    let entered : members_view c.insert.new.self.entries ≡ put p.key (data_of p.value) (members_view old) =
    ap members_view c.in_ok-insert.ensures.entries ∙ members_view-insert_entry old c.in_ok-name.name c.in_ok-value_of.field-0 ∙ rw (named, c.in_ok-value_of.ensures) in
    ap (put_all (on_values data_of rest)) entered ∙ ap (λ l. put_all (on_values data_of l) (members_view old)) (sym next) ∙ c.loop-pair.invariant

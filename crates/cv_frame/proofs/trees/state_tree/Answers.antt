use Rattle.std.proofs.Common.{◌∷◌, map, refl, ap, ap₂, ◌∙◌}
use Rattle.cv_token.specs.declared.token.Token.TheVariants as tree
use Rattle.cv_kinds.specs.Table.{line_of}
use Rattle.cv_kinds.specs.declared.network.ActorSpec.{ActorSpec}
use Rattle.cv_frame.specs.Trees.{number, word, inlet_tree, out_tree, hint_tree}
use Rattle.cv_frame.proofs.trees.state_tree.Goals as goal

pub returns : goal.returns
returns c =
    let spec = c.spec-spec.ensures in
    c.list.ensures ∙ ap tree.List (c.in_ok-parts.ensures.items
    ∙ ap₂ ◌∷◌ c.in_ok-format.ensures
    (ap₂ ◌∷◌ (ap tree.Text (c.in_ok-copy.ensures ∙ ap (λ (s : ActorSpec). s.path) spec))
    (ap₂ ◌∷◌ (c.in_ok-kind.ensures ∙ ap word (c.name.ensures ∙ ap (λ (s : ActorSpec). (line_of s.kind).name) spec))
    (ap₂ ◌∷◌ (ap tree.List (c.in_ok-copy_items.ensures ∙ ap (λ (s : ActorSpec). s.args) spec))
    (ap₂ ◌∷◌ (ap tree.List (c.in_ok-copy_items-2.ensures ∙ c.slots.ensures))
    (ap₂ ◌∷◌ (c.number-wait.ensures ∙ ap number c.wait.ensures)
    (ap₂ ◌∷◌ refl
    (ap₂ ◌∷◌ (c.in_ok-ins.ensures ∙ ap (λ xs. tree.List (map inlet_tree xs)) c.ins.ensures)
    (ap₂ ◌∷◌ (c.in_ok-outs.ensures ∙ ap (λ xs. tree.List (map out_tree xs)) c.outs.ensures)
    (ap₂ ◌∷◌ (c.in_ok-hints.ensures ∙ ap (λ xs. tree.List (map hint_tree xs)) (c.as_slice.ensures ∙ c.hints.ensures)) refl))))))))))

use Rattle.std.proofs.Common.{◌+◌, List, [], ◌∷◌, ◌++◌, sym, ap₂, ◌∙◌, arith}
use Rattle.std.proofs.lemmas.List.FromFn.{map-range_with_len_more}
use Rattle.cv_rules.specs.declared.attrs.NodeSpec.{NodeSpec}
use Rattle.cv_spread.specs.Placing.{node_spec}
use Rattle.cv_spread.proofs.nodes.node_specs.Goals as goal

pub loop-earlier-preserved : goal.loop-earlier-preserved
loop-earlier-preserved c =
    c.in_ok-push.ensures.items
    ∙ ap₂ (λ (specs : List NodeSpec) (spec : NodeSpec). specs ++ spec ∷ []) c.loop-earlier.invariant c.in_ok-node_spec.ensures
    ∙ sym (map-range_with_len_more node_spec 1 c.loop-earlier.earlier (c.loop-earlier.earlier + 1) (omega arith))

use Rattle.std.proofs.Common.{subst}
use Rattle.cv_expand.specs.Meaning.{meaning}
use Rattle.cv_expand.specs.Runs.{Answers}
use Rattle.cv_expand.proofs.Making.{whole, answer_made, answer_flat}
use Rattle.cv_expand.proofs.expanding.parts_of.Goals as goal

pub returns-clause-made : goal.returns-clause-made
returns-clause-made c =
    answer_made c.args.script.now.items c.walk_root.result
    (subst (λ script. Answers c.walk_root.result (meaning script)) c.as_slice-items.ensures
    (whole c.as_slice-items.result.now c.in_ok-defines.defines c.in_ok-components.components c.in_ok-parts.parts tt c.in_ok-check_components.field-0 tt c.in_ok-check_rules.field-0 c.walk_root.result
    c.in_ok-defines.ensures c.in_ok-check_components.ensures c.in_ok-check_rules.ensures c.in_ok-components.ensures c.in_ok-parts.ensures c.walk_root.ensures))

pub returns-clause-flat : goal.returns-clause-flat
returns-clause-flat c =
    answer_flat c.args.script.now.items c.walk_root.result
    (subst (λ script. Answers c.walk_root.result (meaning script)) c.as_slice-items.ensures
    (whole c.as_slice-items.result.now c.in_ok-defines.defines c.in_ok-components.components c.in_ok-parts.parts tt c.in_ok-check_components.field-0 tt c.in_ok-check_rules.field-0 c.walk_root.result
    c.in_ok-defines.ensures c.in_ok-check_components.ensures c.in_ok-check_rules.ensures c.in_ok-components.ensures c.in_ok-parts.ensures c.walk_root.ensures))

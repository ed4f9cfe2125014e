-- What an actor asks of its node.
use Rattle.cv_kinds.specs.declared.network.ActorSpec.{ActorSpec}
use Rattle.cv_rules.specs.declared.rule.Rule.{Rule}
use Rattle.cv_rules.specs.declared.rule.Rule.TheVariants as rule

-- no actor of a network asks for anything yet
abbrev pub rule_of : ActorSpec → Rule
rule_of spec = rule.Any

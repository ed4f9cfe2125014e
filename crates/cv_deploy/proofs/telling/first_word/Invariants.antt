use Rattle.std.proofs.Common.{◌≡◌, drop}
use Rattle.cv_deploy.specs.Meaning.{first_word}
use Rattle.cv_deploy.proofs.telling.first_word.Given as goal

-- what is left decides
abbrev pub invariant-loop-item : goal.invariant-loop-item
invariant-loop-item l = first_word l.script ≡ first_word (drop l.item-index l.script)

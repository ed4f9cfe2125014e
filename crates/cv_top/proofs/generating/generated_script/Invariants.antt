use Rattle.std.proofs.Common.{◌≡◌, string_bytes}
use Rattle.cv_top.specs.Generated.{generated_script}
use Rattle.cv_top.proofs.generating.generated_script.Given as goal

abbrev pub invariant-loop-i : goal.invariant-loop-i
invariant-loop-i l = string_bytes l.text ≡ generated_script l.i

use Rattle.std.proofs.Common.{◌≡◌, ◌++◌, drop, string_bytes}
use Rattle.cv_expand.specs.Paths.{rest_text, IsPath}
use Rattle.cv_expand.proofs.path.push_rest.Given as goal

-- what is left, behind what is written; steps that are left make up what is not seen yet
abbrev pub invariant-loop-step : goal.invariant-loop-step
invariant-loop-step l = record {
  text : string_bytes l.out ++ rest_text (drop l.step-index l.path) ≡ string_bytes l.fn.out ++ rest_text l.path;
  steps : IsPath (drop l.step-index l.path) → IsPath l.path;
}

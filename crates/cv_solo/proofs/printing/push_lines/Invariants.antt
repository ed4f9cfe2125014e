use Rattle.std.proofs.Common.{◌≡◌, ◌++◌, take, string_bytes}
use Rattle.cv_solo.specs.PrintedText.{print_lines}
use Rattle.cv_solo.proofs.printing.push_lines.Given as goal

abbrev pub invariant-loop-token : goal.invariant-loop-token
invariant-loop-token l = string_bytes l.lines ≡ string_bytes l.fn.lines ++ print_lines l.path (take l.token-index l.tokens)

use Rattle.std.proofs.Common.{◌≡◌, map, take, string_bytes}
use Rattle.cv_solo.specs.Keyed.{keyed}
use Rattle.cv_solo.specs.PrintedText.{lines_of}
use Rattle.cv_solo.proofs.solo.Solo.print.Given as goal

abbrev pub invariant-loop-print : goal.invariant-loop-print
invariant-loop-print l = string_bytes l.lines ≡ lines_of l.self.net.connections l.self.runtime.streams (map keyed (take l.print-index l.print-items))

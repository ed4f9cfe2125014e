use Rattle.std.proofs.Common.{ap, ◌∙◌, ◌++◌}
use Rattle.cv_syntax.specs.Spelling.{script_slots}
use Rattle.cv_writing.specs.Printing.{printed}
use Rattle.cv_writing.proofs.Rewritten.{read_back}
use Rattle.cv_writing.proofs.printing.print.Goals as goal

pub returns : goal.returns
returns c =
    let text = c.from_string.ensures ∙ c.in_ok-print_items.ensures ∙ ap (λ z. z ++ printed (script_slots c.args.script.now)) c.new-out.ensures.bytes in
    record { read_back = read_back c.args.script.now _ c.requires text; exact = text }

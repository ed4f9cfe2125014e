use Rattle.std.proofs.Common.{List, subst, string_bytes}
use Rattle.cv_kinds.specs.Net.{Net}
use Rattle.cv_protocol.specs.declared.event.Step.{Step}
use Rattle.cv_top.specs.Printed.{firings_of, IsTextWhereDefined}
use Rattle.cv_top.specs.Ran.{IsRightRecord}
use Rattle.cv_top.proofs.Rights.{right_run}
use Rattle.cv_top.proofs.running.run.Goals as goal

pub returns : goal.returns
returns g c =
    let stop = c.in_ok-stop.stop in
    let merged = c.in_ok-stop.merged in
    let right = subst (λ (n : Net). IsRightRecord c.args.words.now n stop merged) c.in_ok-copy.ensures c.in_ok-stop.ensures in
    let printed = subst (λ (steps : List Step). IsTextWhereDefined c.args.net (firings_of steps) stop (string_bytes c.in_ok-text.text)) c.as_slice.ensures c.in_ok-text.ensures in
    (stop, c.at.ensures, right_run c.args.words.now c.args.net stop merged (string_bytes c.in_ok-text.text) right printed)

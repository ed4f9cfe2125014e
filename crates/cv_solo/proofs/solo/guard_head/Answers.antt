use Rattle.std.proofs.Common.{◌∙◌, List, ap, sym, slice_get}
use Rattle.cv_token.specs.declared.token.Token.{Token}
use Rattle.cv_solo.proofs.Inputs.{head_waits}
use Rattle.cv_solo.proofs.solo.guard_head.Goals as goal

pub returns : goal.returns
returns c =
    c.first.ensures.value
    ∙ ap (λ (w : List Token). slice_get w 0) c.waiting_tokens.ensures
    ∙ head_waits c.args.spec.now c.args.connections.now c.args.streams.now c.args.actor c.in_ok-port.port (sym c.in_ok-port.ensures)

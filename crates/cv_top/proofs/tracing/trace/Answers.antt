use Rattle.cv_top.proofs.tracing.trace.Goals as goal

pub returns : goal.returns
returns g c =
    (c.in_ok-stop.stop, c.at.ensures, record { right = c.in_ok-stop.ensures; written = c.in_ok-text.ensures })

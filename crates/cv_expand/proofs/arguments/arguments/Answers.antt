use Rattle.std.proofs.Common.{◌+◌, drop}
use Rattle.std.specs.Prelude.{option_map}
use Rattle.std.proofs.lemmas.Result.{err_from_is_err_and}
use Rattle.cv_expand.proofs.Unless.{drop_read}
use Rattle.cv_expand.proofs.ArgumentRows.{next, stop}
use Rattle.cv_expand.proofs.arguments.arguments.Goals as goal

pub loop-arg-preserved : goal.loop-arg-preserved
loop-arg-preserved c =
    next c.args.world.now c.args.spot.now (option_map (λ p. p.now) c.args.places) (drop c.loop-arg.arg-index c.args.args.now) (drop (c.loop-arg.arg-index + 1) c.args.args.now) c.arg-item.result c.loop-arg.items c.in_ok-items.items _
    (drop_read c.args.args.now c.loop-arg.arg-index c.arg-item.result c.loop-arg-test.true c.arg-item.is) c.loop-arg.invariant c.in_ok-items.ensures

pub returns-in_err-items : goal.returns-in_err-items
returns-in_err-items c =
    let p = err_from_is_err_and c.from_residual.result c.from_residual.ensures.1 in
    rw (p.1, p.2) (stop c.args.world.now c.args.spot.now (option_map (λ p. p.now) c.args.places) (drop c.loop-arg.arg-index c.args.args.now) (drop (c.loop-arg.arg-index + 1) c.args.args.now) c.arg-item.result c.loop-arg.items _ _
    (drop_read c.args.args.now c.loop-arg.arg-index c.arg-item.result c.loop-arg-test.true c.arg-item.is) c.loop-arg.invariant c.in_err-items.ensures)

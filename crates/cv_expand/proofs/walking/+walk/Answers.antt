use Rattle.std.proofs.Common.{◌+◌, drop, sym, ◌∙◌, ap, arith}
use Rattle.std.proofs.lemmas.Result.{err_from_is_err_and}
use Rattle.cv_expand.specs.Walk.{walk, places_of, inside_with}
use Rattle.cv_expand.specs.Runs.{run}
use Rattle.cv_expand.proofs.Unless.{drop_read}
use Rattle.cv_expand.proofs.Closing.{closed_falls}
use Rattle.cv_expand.proofs.Walks.{walk_is}
use Rattle.cv_expand.proofs.Running.{next_statement, stop_statement, seen_few, into, kept_out}
use Rattle.cv_expand.proofs.walking.+walk.Goals as goal

pub walk_body-loop-statement-init : goal.walk_body-loop-statement-init
walk_body-loop-statement-init t c = record {
  left = rw c.nothing_seen-seen.ensures (ap (run c.args.flat) (sym (walk_is c.args.world.now c.args.spot.now c.args.body.now)));
  few = rw c.nothing_seen-seen.ensures (omega arith);
}

pub walk_body-loop-statement-preserved : goal.walk_body-loop-statement-preserved
walk_body-loop-statement-preserved t c = record {
  left = rw c.in_ok-seen.ensures (next_statement (walk c.args.world.now) c.args.world.now c.args.spot.now c.loop-statement.seen (drop c.loop-statement.statement-index c.args.body.now) (drop (c.loop-statement.statement-index + 1) c.args.body.now) c.statement-item.result c.loop-statement.flat c.in_ok-flat.flat _
      (drop_read c.args.body.now c.loop-statement.statement-index c.statement-item.result c.loop-statement-test.true c.statement-item.is) c.loop-statement.invariant.left c.in_ok-flat.ensures);
  few = let more = seen_few c.loop-statement.seen c.statement-item.result in rw c.in_ok-seen.ensures (omega arith);
}

pub walk_body-returns-in_err-flat : goal.walk_body-returns-in_err-flat
walk_body-returns-in_err-flat t c =
    let p = err_from_is_err_and c.from_residual.result c.from_residual.ensures.1 in
    rw (p.1, p.2) (stop_statement (walk c.args.world.now) c.args.world.now c.args.spot.now c.loop-statement.seen (drop c.loop-statement.statement-index c.args.body.now) (drop (c.loop-statement.statement-index + 1) c.args.body.now) c.statement-item.result c.loop-statement.flat _ _
    (drop_read c.args.body.now c.loop-statement.statement-index c.statement-item.result c.loop-statement-test.true c.statement-item.is) c.loop-statement.invariant.left c.in_err-flat.ensures)

pub walk_instance-returns-in_err-flat : goal.walk_instance-returns-in_err-flat
walk_instance-returns-in_err-flat t c =
    let p = err_from_is_err_and c.from_residual-in_err-flat.result c.from_residual-in_err-flat.ensures.1 in
    rw (p.1, p.2) (kept_out c.args.world.now c.args.spot.now c.args.declare.now c.as_slice-2.result.now c.args.name.now c.args.component.now c.args.flat c.in_ok-places.places c.in_ok-args.args c.in_ok-instance_at.field-0 _ _ _
    c.in_ok-check_count.ensures (c.in_ok-places.ensures ∙ ap places_of c.as_slice.ensures) c.as_slice-2.ensures c.in_ok-args.ensures c.in_ok-instance_at.ensures c.in_err-flat.ensures)

pub walk_instance-walk_body-requires : goal.walk_instance-walk_body-requires
walk_instance-walk_body-requires t c =
    let less = closed_falls c.args.world.now.components c.args.spot.now.opened c.args.name.now c.args.component.now c.requires.found c.requires.closed in
    rw c.in_ok-inner.ensures (omega (arith, less, c.decreases), tt)

pub walk_instance-returns : goal.walk_instance-returns
walk_instance-returns t c =
    into c.args.world.now c.args.spot.now c.args.declare.now c.as_slice-2.result.now c.args.name.now c.args.component.now c.args.flat c.in_ok-flat.flat c.in_ok-places.places c.in_ok-args.args c.in_ok-inner.inner c.in_ok-instance_at.field-0 c.as_slice-4.result.now _ _ _
    c.in_ok-check_count.ensures (c.in_ok-places.ensures ∙ ap places_of c.as_slice.ensures) c.as_slice-2.ensures c.in_ok-args.ensures
    (c.in_ok-inner.ensures ∙ ap (inside_with c.args.spot.now c.args.declare.now c.args.name.now) c.as_slice-3.ensures)
    c.in_ok-instance_at.ensures c.in_ok-flat.ensures c.as_slice-4.ensures c.walk_body.ensures

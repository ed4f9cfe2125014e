use Rattle.std.proofs.Common.{◌+◌, drop, sym, ap, arith}
use Rattle.std.proofs.lemmas.Result.{err_from_is_err_and}
use Rattle.cv_expand.specs.Walk.{walk, root_spot}
use Rattle.cv_expand.specs.Heads.{statements_in}
use Rattle.cv_expand.specs.Runs.{run}
use Rattle.cv_expand.proofs.Unless.{drop_read}
use Rattle.cv_expand.proofs.Walks.{walk_is}
use Rattle.cv_expand.proofs.Running.{next_statement, stop_statement, seen_few}
use Rattle.cv_expand.proofs.Roots.{a_statement, no_statement_there}
use Rattle.cv_expand.proofs.walking.walk_root.Goals as goal
use Rattle.cv_expand.proofs.walking.walk_root.Goals.{in-Statement+in_ok-flat+in_ok-seen, in_default}

pub loop-item-init : goal.loop-item-init
loop-item-init c = record {
  left = rw c.nothing_seen-seen.ensures (ap (run c.args.flat) (sym (walk_is c.args.world.now root_spot (statements_in c.args.script.now))));
  few = rw c.nothing_seen-seen.ensures (omega arith);
  root = c.root_spot-spot.ensures;
}

pub loop-item-preserved : goal.loop-item-preserved
loop-item-preserved c =
    let read = drop_read c.args.script.now c.loop-item.item-index c.item-item.result c.loop-item-test.true c.item-item.is in
    elim c.match-item.branch [
      | in-Statement+in_ok-flat+in_ok-seen w ↦
          let split = a_statement (drop c.loop-item.item-index c.args.script.now) (drop (c.loop-item.item-index + 1) c.args.script.now) c.item-item.result w.in-Statement.statement read w.in-Statement.is in
          let here = rw c.root_spot-spot.ensures at w.in_ok-flat.ensures in
          let more = seen_few c.loop-item.seen w.in-Statement.statement in
          record {
            left = rw (w.flat-is, w.seen-is, w.in_ok-seen.ensures) (next_statement (walk c.args.world.now) c.args.world.now root_spot c.loop-item.seen (statements_in (drop c.loop-item.item-index c.args.script.now)) (statements_in (drop (c.loop-item.item-index + 1) c.args.script.now)) w.in-Statement.statement c.loop-item.flat w.in_ok-flat.flat _ split c.loop-item.invariant.left here);
            few = rw (w.seen-is, w.in_ok-seen.ensures) (omega arith);
            root = c.root_spot-spot.ensures;
          }
      | in_default w ↦
          let same = no_statement_there (drop c.loop-item.item-index c.args.script.now) (drop (c.loop-item.item-index + 1) c.args.script.now) c.item-item.result read w.in_default.not-Statement in
          record {
            left = rw (w.flat-is, w.seen-is, ← same) c.loop-item.invariant.left;
            few = rw w.seen-is (omega arith);
            root = c.root_spot-spot.ensures;
          }
    ]

pub returns-in_err-flat : goal.returns-in_err-flat
returns-in_err-flat c =
    let p = err_from_is_err_and c.from_residual.result c.from_residual.ensures.1 in
    let read = drop_read c.args.script.now c.loop-item.item-index c.item-item.result c.loop-item-test.true c.item-item.is in
    let split = a_statement (drop c.loop-item.item-index c.args.script.now) (drop (c.loop-item.item-index + 1) c.args.script.now) c.item-item.result c.in-Statement.statement read c.in-Statement.is in
    let here = rw c.root_spot-spot.ensures at c.in_err-flat.ensures in
    rw (p.1, p.2) (stop_statement (walk c.args.world.now) c.args.world.now root_spot c.loop-item.seen (statements_in (drop c.loop-item.item-index c.args.script.now)) (statements_in (drop (c.loop-item.item-index + 1) c.args.script.now)) c.in-Statement.statement c.loop-item.flat _ _ split c.loop-item.invariant.left here)

use Rattle.std.proofs.Common.{◌<◌, length, inl, inr, arith}
use Rattle.std.proofs.lemmas.Option.{slice_get_within}
use Rattle.cv_graph.proofs.Leaping.{next_leap}
use Rattle.cv_graph.proofs.ways.round.Goals as goal
use Rattle.cv_graph.proofs.ways.round.Goals.{then-has_ended, else-has_ended}

pub loop-at-preserved : goal.loop-at-preserved
loop-at-preserved c =
    let inside : c.loop-at.at < length c.loop-at.ways = omega arith in
    next_leap c.args.ways.now c.loop-at.ways c.loop-at.found c.has_ended.result c.if-has_ended.found c.loop-at.at _ c.leap-next.result c.loop-at.invariant inside c.leap-next.ensures c.has_ended.ensures (elim c.if-has_ended.branch [
      | then-has_ended w ↦ inl (w.if-has_ended.true, w.found-is)
      | else-has_ended w ↦ inr (w.if-has_ended.false, w.found-is)
    ])

pub returns-clause-stuck : goal.returns-clause-stuck
returns-clause-stuck c = λ quiet o known i back.
    let inside = slice_get_within c.loop-at.ways i _ back.1 in
    c.loop-at.invariant.stuck quiet o known i (omega arith) back

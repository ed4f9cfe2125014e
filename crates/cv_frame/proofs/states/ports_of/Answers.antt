use Rattle.std.proofs.Common.{ap, length, arith}
use Rattle.std.proofs.lemmas.List.{length-map}
use Rattle.cv_frame.specs.Trees.{inlet_tree, out_tree}
use Rattle.cv_frame.specs.laws.Shapes.{same_list}
use Rattle.cv_frame.proofs.states.ports_of.Goals as goal

pub returns-then-len-from : goal.returns-then-len-from
returns-then-len-from c = λ xs ys _ _ k e f.
    let found = rw c.in-Some.is at c.in_ok-ins.ensures in
    let same = ap length (same_list _ _ _ found.1 e) in
    absurd (omega (arith, same, k.inports, length-map xs inlet_tree, length-map c.in-Some.ins.items inlet_tree))

pub returns-then-len-from-2 : goal.returns-then-len-from-2
returns-then-len-from-2 c = λ xs ys _ _ k e f.
    let found = rw c.in-Some-2.is at c.in_ok-outs.ensures in
    let same = ap length (same_list _ _ _ found.1 f) in
    absurd (omega (arith, same, k.outports, length-map ys out_tree, length-map c.in-Some-2.outs.items out_tree))

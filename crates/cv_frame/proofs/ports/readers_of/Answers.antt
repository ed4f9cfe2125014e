use Rattle.std.proofs.Common.{ap, length, arith}
use Rattle.std.proofs.lemmas.List.{length-map}
use Rattle.cv_frame.specs.Trees.{most_readers, subscription_tree}
use Rattle.cv_frame.specs.laws.Shapes.{same_list}
use Rattle.cv_frame.proofs.ports.readers_of.Goals as goal

pub returns-then-len-gt-MOST_READERS : goal.returns-then-len-gt-MOST_READERS
unfolding most_readers
returns-then-len-gt-MOST_READERS c = λ v k e.
    let found = rw c.in-Some.is at c.in_ok-readers.ensures in
    let same = ap length (same_list _ _ _ found.1 e) in
    absurd (omega (arith, same, k.few, length-map v subscription_tree, length-map c.in-Some.readers.items subscription_tree))

pub returns : goal.returns
unfolding most_readers
returns c =
    let found = rw c.in-Some.is at c.in_ok-readers.ensures in
    rw c.from_vec.ensures (record { each = found.0; few = omega arith }, found.1)

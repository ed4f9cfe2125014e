use Rattle.cv_solo.proofs.Prints.{in_path_order}
use Rattle.cv_solo.proofs.printing.prints_in_order.Goals as goal

pub returns : goal.returns
returns c = in_path_order c.args.actors.now c.in_ok-prints.prints.items c.sort.new.self.items c.in_ok-prints.ensures c.sort.ensures.permutation c.in_ok-sort.ensures.sorted

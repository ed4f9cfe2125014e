use Rattle.std.proofs.Common.{false, true, arith}
use Rattle.cv_station.proofs.Goes.{goes_back, goes_none, goes_stepped}
use Rattle.cv_station.proofs.station.Station.act.Goals as goal

pub returns-then-entries-most : goal.returns-then-entries-most
returns-then-entries-most c = goes_none c.args.most false c.args.self.now

pub returns-in-Ok : goal.returns-in-Ok
returns-in-Ok c =
    goes_stepped c.args.most c.args.self.now c.step.new.self c.args.event c.in-Ok.ensures.done c.requires.work c.requires.no_firing (omega arith)

pub returns-in-Err-StampSpent : goal.returns-in-Err-StampSpent
returns-in-Err-StampSpent c = goes_back c.args.most true c.args.self.now c.step.new.self c.in-Err-StampSpent.ensures.err

pub returns-in-Err : goal.returns-in-Err
returns-in-Err c = goes_back c.args.most false c.args.self.now c.step.new.self c.in-Err.ensures.err

use Rattle.std.proofs.Common.{false, true, arith}
use Rattle.cv_settle.proofs.Silent.{carries_back, carries_none, carries_stepped}
use Rattle.cv_settle.proofs.acting.act.Goals as goal

pub returns-then-entries-ge-JOURNAL_LENGTH : goal.returns-then-entries-ge-JOURNAL_LENGTH
returns-then-entries-ge-JOURNAL_LENGTH c = carries_none true c.args.station.now

pub returns-in-Ok : goal.returns-in-Ok
returns-in-Ok c =
    carries_stepped c.args.station.now c.step.new.self c.args.event c.in-Ok.ensures.done c.requires (omega arith)

pub returns-in-Err-StampSpent : goal.returns-in-Err-StampSpent
returns-in-Err-StampSpent c =
    carries_back true c.args.station.now c.step.new.self c.in-Err-StampSpent.ensures.err

pub returns-in-Err : goal.returns-in-Err
returns-in-Err c = carries_back false c.args.station.now c.step.new.self c.in-Err.ensures.err

use Rattle.std.proofs.Common.{is_err}
use Rattle.cv_settle.proofs.Settles.{swept_settled}
use Rattle.cv_settle.proofs.settling.sweep.Goals as goal

pub returns : goal.returns
returns c =
    swept_settled (is_err c.carry_each-answer.result) c.args.stations.now c.carry_each-answer.new.stations c.look_all.new.stations c.end_turns.new.stations c.carry_each-answer.ensures c.look_all.ensures.looks c.look_all.ensures.looked c.end_turns.ensures

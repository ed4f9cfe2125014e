use Rattle.std.proofs.Common.{◌+◌, is_err, refl, arith}
use Rattle.cv_station.proofs.Goes.{goes_then}
use Rattle.cv_station.proofs.Rounds.{round_made, round_refused}
use Rattle.cv_station.proofs.station.Station.go_on.Goals as goal

pub returns-then-start : goal.returns-then-start
returns-then-start c = round_refused c.args.self.now

pub returns : goal.returns
returns c =
    let most = c.entries-start.result + 2048 in
    let failed = is_err c.turns.result in
    round_made failed c.args.self.now c.turns.new.self c.entries-start.result most c.entries-start.ensures refl (omega arith)
    (goes_then most failed c.args.self.now c.poll_all.new.self c.turns.new.self c.in_ok-poll_all.ensures c.turns.ensures)

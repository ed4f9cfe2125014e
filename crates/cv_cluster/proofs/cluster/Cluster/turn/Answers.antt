use Rattle.std.proofs.Common.{◌≡◌, Ok, rules, refl, ap, arith}
use Rattle.cv_cluster.proofs.Turns.{calm_turn, less_room, no_more_room}
use Rattle.cv_cluster.proofs.cluster.Cluster.turn.Goals as goal

pub returns-in_err-settle-clause-goes : goal.returns-in_err-settle-clause-goes
returns-in_err-settle-clause-goes g c =
    let goes = c.in_ok-fired.ensures.goes in
    let none : goes.0 ≡ 0 = (let same = goes.3 in omega (arith, c.if-fired-gt0.false, same)) in
    (0, omega arith, calm_turn c.args.self.now c.round.new.self c.settle.new.self goes.0 none goes.2 c.settle.ensures.goes, search rules)

pub returns-then-not-settled-clause-goes : goal.returns-then-not-settled-clause-goes
returns-then-not-settled-clause-goes g c =
    let goes = c.in_ok-fired.ensures.goes in
    let none : goes.0 ≡ 0 = (let same = goes.3 in omega (arith, c.if-fired-gt0.false, same)) in
    (0, omega arith, calm_turn c.args.self.now c.round.new.self c.settle.new.self goes.0 none goes.2 c.settle.ensures.goes, refl)

pub returns-in_err-tick-clause-goes : goal.returns-in_err-tick-clause-goes
returns-in_err-tick-clause-goes g c =
    let goes = c.in_ok-fired.ensures.goes in
    let none : goes.0 ≡ 0 = (let same = goes.3 in omega (arith, c.if-fired-gt0.false, same)) in
    (0, omega arith, calm_turn c.args.self.now c.round.new.self c.tick.new.self goes.0 none goes.2 c.tick.ensures.goes, search rules)

pub returns-then-branch-clause-goes : goal.returns-then-branch-clause-goes
returns-then-branch-clause-goes g c =
    let goes = c.in_ok-fired.ensures.goes in
    let none : goes.0 ≡ 0 = (let same = goes.3 in omega (arith, c.if-fired-gt0.false, same)) in
    (0, omega arith, calm_turn c.args.self.now c.round.new.self c.tick.new.self goes.0 none goes.2 c.tick.ensures.goes, refl)

pub returns-then-branch-clause-on : goal.returns-then-branch-clause-on
returns-then-branch-clause-on g c =
    let goes = c.in_ok-fired.ensures.goes in
    let before = no_more_room c.args.self.now c.round.new.self goes.0 goes.2 in
    let less = less_room c.round.new.self c.tick.new.self (c.in_ok-tick.ensures.ticks (ap Ok c.if-branch.true)) c.honest.ensures in
    omega (arith, before, less)

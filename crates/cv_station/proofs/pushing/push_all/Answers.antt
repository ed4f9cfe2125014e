use Rattle.cv_station.proofs.Pushes.{front_of, last_of, pushes_more, pushes_none}
use Rattle.cv_station.proofs.pushing.push_all.Goals as goal

pub loop-frame-init : goal.loop-frame-init
loop-frame-init c = record { pushes = pushes_none c.args.frames c.args.peers.now; left = λ f h. h }

pub loop-frame-preserved : goal.loop-frame-preserved
loop-frame-preserved c =
    let before = c.loop-frame.invariant in
    let here = last_of c.args.frames c.loop-frame.frames c.pop.new.self c.in-Some.frame c.in-Some.ensures before.left in
    record {
      pushes = pushes_more c.args.frames c.in-Some.frame c.args.peers.now c.loop-frame.peers c.push.new.peers here before.pushes c.push.ensures;
      left = front_of c.args.frames c.loop-frame.frames c.pop.new.self c.in-Some.frame c.in-Some.ensures before.left;
    }

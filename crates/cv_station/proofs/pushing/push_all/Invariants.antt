use Rattle.std.proofs.Common.{length, Contains}
use Rattle.cv_protocol.specs.declared.frame.Frame.{Frame}
use Rattle.cv_station.specs.Going.{Pushes}
use Rattle.cv_station.proofs.pushing.push_all.Given as goal

-- the frames left are some of all
abbrev pub invariant-loop-frame : goal.invariant-loop-frame
invariant-loop-frame l = record {
  pushes : Pushes l.fn.frames l.fn.peers l.peers;
  left : (f : Frame) → Contains l.frames f → Contains l.fn.frames f;
}

abbrev pub decreases-loop-frame : goal.decreases-loop-frame
decreases-loop-frame l = length l.frames

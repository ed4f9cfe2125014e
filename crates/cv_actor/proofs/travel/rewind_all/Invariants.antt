use Rattle.std.proofs.Common.{◌≡◌, ◌++◌, map, take, drop}
use Rattle.cv_protocol.specs.Travel.{rewound_out}
use Rattle.cv_actor.proofs.travel.rewind_all.Given as goal

abbrev pub invariant-loop-place : goal.invariant-loop-place
invariant-loop-place l = take l.place l.outs ++ map rewound_out (drop l.place l.outs) ≡ map rewound_out l.fn.outs

use Rattle.std.proofs.Common.{◌≡◌, ◌++◌, map, take, drop}
use Rattle.cv_actor.specs.Returning.{rewound_out_for}
use Rattle.cv_actor.proofs.travel.rewind_all_towards.Given as goal

abbrev pub invariant-loop-place : goal.invariant-loop-place
invariant-loop-place l = take l.place l.outs ++ map (rewound_out_for l.actor) (drop l.place l.outs) ≡ map (rewound_out_for l.actor) l.fn.outs

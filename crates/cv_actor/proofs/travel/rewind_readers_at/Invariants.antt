use Rattle.std.proofs.Common.{◌≡◌, ◌++◌, length, map, take, drop}
use Rattle.cv_protocol.specs.NodeState.{rewound_for}
use Rattle.cv_actor.proofs.travel.rewind_readers_at.Given as goal

abbrev pub invariant-loop-number : goal.invariant-loop-number
invariant-loop-number l = record {
  rest : l.out ≡ record (l.fn.out) { readers = l.out.readers };
  many : length l.out.readers ≡ l.number-end;
  whole : take l.number l.out.readers ++ map (rewound_for l.actor) (drop l.number l.out.readers) ≡ map (rewound_for l.actor) l.fn.out.readers;
}

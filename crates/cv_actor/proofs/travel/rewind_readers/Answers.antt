use Rattle.std.proofs.Common.{◌≡◌, slice_set, refl, ◌∙◌, arith}
use Rattle.cv_queue.proofs.Lists.{slice_get_some}
use Rattle.cv_protocol.specs.Travel.{rewound_reader}
use Rattle.cv_actor.proofs.Settled.{many_next, readers_rewound, rest_next, whole_next}
use Rattle.cv_actor.proofs.travel.rewind_readers.Goals as goal

pub loop-number-preserved : goal.loop-number-preserved
loop-number-preserved c =
    let o = c.loop-number.out in
    let n = c.loop-number.number in
    let there = slice_get_some o.readers n (omega (arith, c.loop-number.invariant.many)) in
    let y = rewound_reader there.0 in
    let is : c.rewind.new.self ≡ record o { readers = slice_set o.readers n y } = c.rewind.ensures ∙ readers_rewound o n there.0 there.1 in
    record {
      rest = rest_next c.args.out.now o c.rewind.new.self (slice_set o.readers n y) is c.loop-number.invariant.rest;
      many = many_next o c.rewind.new.self n _ y is c.loop-number.invariant.many;
      whole = whole_next rewound_reader c.args.out.now o c.rewind.new.self n there.0 y is there.1 refl c.loop-number.invariant.whole;
    }

use Rattle.std.proofs.Common.{◌≡◌, Option, Some, slice_get, slice_set, refl, subst, arith}
use Rattle.std.specs.Prelude.{IsSomeAnd}
use Rattle.cv_queue.specs.declared.reader.Reader.{Reader}
use Rattle.cv_queue.proofs.Lists.{slice_get_some}
use Rattle.cv_protocol.specs.NodeState.{rewound_for}
use Rattle.cv_actor.specs.Returning.{IsRewoundAt}
use Rattle.cv_actor.proofs.Settled.{many_next, rest_next, whole_next}
use Rattle.cv_actor.proofs.travel.rewind_readers_at.Goals as goal

pub loop-number-preserved : goal.loop-number-preserved
loop-number-preserved c =
    let o = c.loop-number.out in
    let n = c.loop-number.number in
    let a = c.args.actor in
    let there = slice_get_some o.readers n (omega (arith, c.loop-number.invariant.many)) in
    let y = rewound_for a there.0 in
    let is : c.rewind_at.new.out ≡ record o { readers = slice_set o.readers n y } = subst (λ (r : Option Reader). IsSomeAnd r (IsRewoundAt o n a c.rewind_at.new.out)) there.1 c.rewind_at.ensures in
    record {
      rest = rest_next c.args.out.now o c.rewind_at.new.out (slice_set o.readers n y) is c.loop-number.invariant.rest;
      many = many_next o c.rewind_at.new.out n _ y is c.loop-number.invariant.many;
      whole = whole_next (rewound_for a) c.args.out.now o c.rewind_at.new.out n there.0 y is there.1 refl c.loop-number.invariant.whole;
    }

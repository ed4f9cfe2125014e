use Rattle.std.proofs.Common.{length, ap, arith, rules}
use Rattle.cv_actor.proofs.Gifts.{few_at, room_to_fire}
use Rattle.cv_actor.proofs.live.Live.fire.Goals as goal

pub copied_heads-requires-clause-few : goal.copied_heads-requires-clause-few
copied_heads-requires-clause-few c = let few = few_at _ _ _ c.self.invariant in omega (arith, few.0, ap length c.as_slice.ensures.value)

pub take_needed-requires-clause-few : goal.take_needed-requires-clause-few
take_needed-requires-clause-few c = let few = few_at _ _ _ c.self.invariant in omega (arith, few.0, ap length c.deref_mut.ensures.value)

pub write_given-requires : goal.write_given-requires
write_given-requires c =
    let room = room_to_fire c.args.self.now c.args.now c.args.action c.in_ok-heads.heads c.requires.fires c.requires.writable in
    search (rules, room)

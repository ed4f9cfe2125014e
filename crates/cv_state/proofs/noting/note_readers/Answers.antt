use Rattle.std.proofs.Common.{◌+◌, List, drop, ap, sym, ◌∙◌, arith}
use Rattle.cv_queue.specs.declared.reader.Reader.{Reader}
use Rattle.cv_protocol.specs.Deliveries.{readers_noted}
use Rattle.cv_actor.proofs.Found.{drop_at}
use Rattle.cv_state.proofs.noting.note_readers.Goals as goal

pub loop-number-preserved : goal.loop-number-preserved
loop-number-preserved c =
    let rs = c.args.out.now.readers in
    let n = c.loop-number.number in
    let a = c.args.actor in
    record {
      whole = ap (readers_noted a (drop (n + 1) rs)) c.in-Ok.ensures.ok
          ∙ sym (ap (λ (left : List Reader). readers_noted a left c.loop-number.producers.map) (drop_at n rs c.in-Some.reader (sym c.in-Some.ensures.value)))
          ∙ c.loop-number.invariant.whole;
      room = omega (arith, c.in-Ok.ensures.room);
    }

use Rattle.std.proofs.Common.{◌≡◌, ◌<◌, true, false, length, refl, ap, sym, ◌∙◌, arith}
use Rattle.std.proofs.lemmas.Option.{slice_get_read}
use Rattle.cv_graph.proofs.Segments.{specs_length, queue_ok, queue_not, queue_next, queue_stop}
use Rattle.cv_graph.proofs.queues.check_queues.Goals as goal

pub bounds-specs-number : goal.bounds-specs-number
bounds-specs-number c = omega (arith, c.loop-number-test.true, ap length c.as_slice-actor-items.ensures, specs_length c.args.parts.now.actors c.args.specs.now c.requires)

pub returns-then-not-fits_queues : goal.returns-then-not-fits_queues
returns-then-not-fits_queues c =
    let xs = c.args.parts.now.actors in
    let i = c.loop-number.number in
    let same = specs_length c.args.parts.now.actors c.args.specs.now c.requires in
    let inside : c.loop-number.number < length c.args.parts.now.actors = omega (arith, c.loop-number-test.true, ap length c.as_slice-actor-items.ensures) in
    let read = rw c.as_slice-actor-items.ensures at c.actor-item.is in
    let at = slice_get_read xs (length xs) i c.actor-item.result refl inside read in
    let there = slice_get_read c.args.specs.now (length xs) i c.index-specs-number.result same inside c.index-specs-number.is in
    queue_stop c.args.parts.now _ xs i c.actor-item.result inside read c.loop-number.invariant (queue_not c.args.parts.now c.args.specs.now i c.actor-item.result c.index-specs-number.result c.requires at there (λ fits. let clash : true ≡ false = sym (c.fits_queues.ensures.1 fits) ∙ c.if-not-fits_queues.true in cc))

pub loop-number-preserved : goal.loop-number-preserved
loop-number-preserved c =
    let xs = c.args.parts.now.actors in
    let i = c.loop-number.number in
    let same = specs_length c.args.parts.now.actors c.args.specs.now c.requires in
    let inside : c.loop-number.number < length c.args.parts.now.actors = omega (arith, c.loop-number-test.true, ap length c.as_slice-actor-items.ensures) in
    let read = rw c.as_slice-actor-items.ensures at c.actor-item.is in
    let at = slice_get_read xs (length xs) i c.actor-item.result refl inside read in
    let there = slice_get_read c.args.specs.now (length xs) i c.index-specs-number.result same inside c.index-specs-number.is in
    queue_next c.args.parts.now _ xs i c.actor-item.result inside read c.loop-number.invariant (queue_ok c.args.parts.now c.args.specs.now i c.actor-item.result c.index-specs-number.result c.requires at there (c.fits_queues.ensures.0 c.if-not-fits_queues.false))

use Rattle.cv_merge.proofs.Taking.{all_within, scanned}
use Rattle.cv_merge.proofs.choosing.least.Goals as goal

pub returns-clause-within : goal.returns-clause-within
returns-clause-within c = all_within c.args.sources.now c.loop-place.best (scanned c.args.sources.now c.loop-place.place c.loop-place.best c.loop-place.invariant c.loop-place-test.false)

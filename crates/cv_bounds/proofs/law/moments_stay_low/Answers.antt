use Rattle.cv_bounds.proofs.Pausing.{empty_is_start, opened_is_start}
use Rattle.cv_bounds.proofs.Runs.{runs_are_timely, runs_spend_nothing}
use Rattle.cv_bounds.proofs.Waiting.{waits_stay_brief}
use Rattle.cv_bounds.proofs.law.moments_stay_low.Goals as goal

pub returns-clause-rows : goal.returns-clause-rows
returns-clause-rows c = waits_stay_brief

pub returns-clause-opened : goal.returns-clause-opened
returns-clause-opened c = opened_is_start

pub returns-clause-empty : goal.returns-clause-empty
returns-clause-empty c = empty_is_start

pub returns-clause-runs : goal.returns-clause-runs
returns-clause-runs c = runs_are_timely

pub returns-clause-spent : goal.returns-clause-spent
returns-clause-spent c = runs_spend_nothing

use Rattle.cv_bounds.proofs.Opening.{opened_is_new}
use Rattle.cv_bounds.proofs.Recording.{records_stay_few}
use Rattle.cv_bounds.proofs.Spending.{none_is_spent, raises_by_one}
use Rattle.cv_bounds.proofs.law.numbers_stay_few.Goals as goal

pub returns-clause-rows : goal.returns-clause-rows
returns-clause-rows c = raises_by_one

pub returns-clause-records : goal.returns-clause-records
returns-clause-records c = records_stay_few

pub returns-clause-spent : goal.returns-clause-spent
returns-clause-spent c = none_is_spent

pub returns-clause-opened : goal.returns-clause-opened
returns-clause-opened c = opened_is_new

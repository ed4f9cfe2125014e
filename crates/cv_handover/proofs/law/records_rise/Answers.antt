use Rattle.cv_handover.proofs.Rising.{cancelled_by_cancel, judged_once, journals_raise, rows_raise, verdicts_judged}
use Rattle.cv_handover.proofs.law.records_rise.Goals as goal

pub returns : goal.returns
returns c = record { rows = rows_raise; journals = journals_raise; once = judged_once; judged = verdicts_judged; cancelled = cancelled_by_cancel }

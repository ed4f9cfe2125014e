use Rattle.cv_syntax.proofs.Theorem.{found_of, only_of, one_script, fault_is, faulty_of}
use Rattle.cv_syntax.proofs.parsing.parse.Goals as goal

pub returns-clause-found : goal.returns-clause-found
returns-clause-found c = found_of _ _ _ c.parse_all.ensures

pub returns-clause-only : goal.returns-clause-only
returns-clause-only c = only_of _ _ _ c.parse_all.ensures

pub returns-clause-one : goal.returns-clause-one
returns-clause-one c = one_script _

pub returns-clause-fault : goal.returns-clause-fault
returns-clause-fault c = fault_is _ _ _ c.parse_all.ensures

pub returns-clause-faulty : goal.returns-clause-faulty
returns-clause-faulty c = faulty_of _ _ _ c.parse_all.ensures

use Rattle.mds_city.proofs.follow.follow_to_end.Goals as goal

pub returns-in-Err-clause-err : goal.returns-in-Err-clause-err
returns-in-Err-clause-err g c = (c.in-Err.error, c.in-Err.ensures.fault, c.problem_of.ensures)

use Rattle.mds_city.proofs.follow.begin_to_follow.Goals as goal

pub returns-in-Err-clause-err : goal.returns-in-Err-clause-err
returns-in-Err-clause-err g c = (c.in-Err.error, c.in-Err.ensures.fault, c.in-Err.ensures.order, c.problem_of.ensures)

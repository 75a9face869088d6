use Rattle.mds_pool.proofs.Rounds.{seats_stay}
use Rattle.mds_pool.proofs.pool.serve.Goals as goal

pub returns-in-Err-clause-err : goal.returns-in-Err-clause-err
returns-in-Err-clause-err g c = seats_stay c.args.seats.items c.in-Err.seats.items c.in-Err.ensures.memory

use Rattle.mds_trace.proofs.MoveLemmas.{next_halts, run_halts}
use Rattle.mds_trace.proofs.walk.make_move.Goals as goal

pub returns-in-Step-clause-halt : goal.returns-in-Step-clause-halt
returns-in-Step-clause-halt c = rw c.in-Step.is c.step.ensures.halt

pub returns-in-Back-clause-halt : goal.returns-in-Back-clause-halt
returns-in-Back-clause-halt c = rw c.in-Back.is c.back.ensures.halt

pub returns-in-Next-clause-halt : goal.returns-in-Next-clause-halt
returns-in-Next-clause-halt c = rw c.in-Next.is (next_halts c.args.session.now c.next_event.result c.next_event.ensures.halt)

pub returns-in-Run-clause-halt : goal.returns-in-Run-clause-halt
returns-in-Run-clause-halt c = rw c.in-Run.is (run_halts c.args.session.now c.in-Run.state c.run_to.result c.run_to.ensures.halt)

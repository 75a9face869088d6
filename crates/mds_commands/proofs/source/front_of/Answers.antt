use Rattle.std.proofs.Common.{inl, inr}
use Rattle.mds_commands.proofs.ErrorLemmas.{wanted_or_not}
use Rattle.mds_io.proofs.ReadLemmas.{stop_loses}
use Rattle.mds_commands.proofs.source.front_of.Goals as goal

pub returns-in-Err-clause-err : goal.returns-in-Err-clause-err
returns-in-Err-clause-err g c =
    wanted_or_not c.in-Err.error (λ wanted. inl (c.read_problem.ensures.memory wanted)) (λ other. inr (c.read_problem.ensures.read other))

pub returns-in-Err-clause-no_further : goal.returns-in-Err-clause-no_further
returns-in-Err-clause-no_further g c = let lost = c.in-Err.ensures.err in stop_loses _ _ _ _ _ _ _ lost.2

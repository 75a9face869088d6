use Rattle.mds_check.proofs.LawLemmas.{run_found}
use Rattle.mds_check.proofs.laws.runs_of_32_bits_are_found.Goals as goal

pub returns : goal.returns
returns c = run_found

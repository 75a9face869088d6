use Rattle.mds_check.proofs.LawLemmas.{joined_found}
use Rattle.mds_check.proofs.laws.joined_lines_are_found.Goals as goal

pub returns : goal.returns
returns c = joined_found

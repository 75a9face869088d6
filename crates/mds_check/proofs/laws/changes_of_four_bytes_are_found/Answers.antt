use Rattle.mds_check.proofs.LawLemmas.{four_found}
use Rattle.mds_check.proofs.laws.changes_of_four_bytes_are_found.Goals as goal

pub returns : goal.returns
returns c = four_found

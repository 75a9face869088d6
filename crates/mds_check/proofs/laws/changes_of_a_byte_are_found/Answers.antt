use Rattle.mds_check.proofs.LawLemmas.{byte_found}
use Rattle.mds_check.proofs.laws.changes_of_a_byte_are_found.Goals as goal

pub returns : goal.returns
returns c = byte_found

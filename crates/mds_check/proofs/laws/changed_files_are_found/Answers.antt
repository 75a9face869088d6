use Rattle.mds_check.proofs.LawLemmas.{file_found}
use Rattle.mds_check.proofs.laws.changed_files_are_found.Goals as goal

pub returns : goal.returns
returns c = file_found

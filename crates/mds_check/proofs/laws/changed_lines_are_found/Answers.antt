use Rattle.mds_check.proofs.LawLemmas.{line_found}
use Rattle.mds_check.proofs.laws.changed_lines_are_found.Goals as goal

pub returns : goal.returns
returns c = line_found

use Rattle.mds_journal.proofs.LineLemmas.{parts}
use Rattle.mds_journal.proofs.laws.files_are_lines_and_an_end.Goals as goal

pub returns : goal.returns
returns c = λ file. ((parts file).end, (parts file).split, (parts file).nothing)

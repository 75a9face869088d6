use Rattle.mds_journal.proofs.LineLemmas.{recovered_line}
use Rattle.mds_journal.proofs.laws.whole_lines_count.Goals as goal

pub returns : goal.returns
returns c = recovered_line

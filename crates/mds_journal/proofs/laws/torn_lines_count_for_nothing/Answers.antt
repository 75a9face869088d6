use Rattle.mds_journal.proofs.LineLemmas.{recovered_torn}
use Rattle.mds_journal.proofs.laws.torn_lines_count_for_nothing.Goals as goal

pub returns : goal.returns
returns c = recovered_torn

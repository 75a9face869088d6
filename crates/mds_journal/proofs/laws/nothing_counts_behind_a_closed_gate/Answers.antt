use Rattle.mds_journal.proofs.LineLemmas.{recovered_shut}
use Rattle.mds_journal.proofs.laws.nothing_counts_behind_a_closed_gate.Goals as goal

pub returns : goal.returns
returns c = recovered_shut

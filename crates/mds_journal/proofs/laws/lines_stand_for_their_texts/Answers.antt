use Rattle.mds_journal.proofs.LineLemmas.{recovered_lines}
use Rattle.mds_journal.proofs.laws.lines_stand_for_their_texts.Goals as goal

pub returns : goal.returns
returns c = recovered_lines

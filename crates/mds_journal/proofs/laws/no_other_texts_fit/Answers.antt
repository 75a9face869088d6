use Rattle.mds_journal.proofs.LineLemmas.{recovered_is}
use Rattle.mds_journal.proofs.laws.no_other_texts_fit.Goals as goal

pub returns : goal.returns
returns c = recovered_is

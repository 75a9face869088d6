use Rattle.mds_journal.proofs.LineLemmas.{texts_have_no_feed}
use Rattle.mds_journal.proofs.laws.texts_have_no_feed.Goals as goal

pub returns : goal.returns
returns c = texts_have_no_feed

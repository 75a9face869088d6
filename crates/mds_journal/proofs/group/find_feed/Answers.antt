use Rattle.mds_journal.proofs.FeedLemmas.{feed_none, feed_some}
use Rattle.mds_journal.proofs.group.find_feed.Goals as goal

pub returns-clause-none : goal.returns-clause-none
returns-clause-none c = feed_none _ _ c.memchr.ensures

pub returns-clause-some : goal.returns-clause-some
returns-clause-some c = feed_some _ _ c.memchr.ensures

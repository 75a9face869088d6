use Rattle.mds_book.proofs.SightLaws.{settled_is_not_torn}
use Rattle.mds_book.proofs.laws.settled_is_not_torn.Goals as goal

pub returns : goal.returns
returns c all shard place settled torn = settled_is_not_torn all shard place settled torn

use Rattle.std.proofs.Common.{ℕ}
use Rattle.std.proofs.lemmas.List.{length-replicate}
use Rattle.mds_journal.proofs.room.line_feeds.Goals as goal

pub returns : goal.returns
returns c = length-replicate {0} {A = ℕ} 1048576 10

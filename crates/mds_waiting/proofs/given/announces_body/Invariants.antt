use Rattle.std.proofs.Common.{length}
use Rattle.mds_waiting.proofs.given.announces_body.Given as goal

abbrev pub decreases-loop-at : goal.decreases-loop-at
decreases-loop-at l = length l.rest

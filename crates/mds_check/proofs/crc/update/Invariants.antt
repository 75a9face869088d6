use Rattle.std.proofs.Common.{◌≡◌, length}
use Rattle.mds_check.specs.Crc.{after_bytes}
use Rattle.mds_check.proofs.crc.update.Given as goal

abbrev pub invariant-eights : goal.invariant-eights
invariant-eights l = after_bytes l.state l.rest ≡ after_bytes l.fn.state l.bytes

abbrev pub decreases-eights : goal.decreases-eights
decreases-eights l = length l.rest

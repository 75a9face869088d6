use Rattle.std.proofs.Common.{◌≡◌, take}
use Rattle.mds_check.specs.Crc.{after_bytes}
use Rattle.mds_check.proofs.crc.update_by_bytes.Given as goal

abbrev pub invariant-loop-byte : goal.invariant-loop-byte
invariant-loop-byte l = l.state ≡ after_bytes l.fn.state (take l.byte-index l.bytes)

use Rattle.std.proofs.Common.{arith}
use Rattle.mds_check.proofs.StateLemmas.{after_bytes-more}
use Rattle.mds_check.proofs.crc.update_by_bytes.Goals as goal

pub loop-byte-preserved : goal.loop-byte-preserved
loop-byte-preserved c =
    let more = after_bytes-more c.args.state c.args.bytes.now c.loop-byte.byte-index (omega arith) in
    cc (more, c.behind_byte-state.ensures, c.loop-byte.invariant)

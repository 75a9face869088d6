use Rattle.std.proofs.Common.{subst}
use Rattle.std.specs.Io.KnownBytes.{Appends}
use Rattle.mds_waiting.proofs.PeerLemmas.{appended, front_and_rest}
use Rattle.mds_waiting.proofs.outgoing.OutgoingWrite.write.Goals as goal

pub returns-in-Ok-clause-bytes : goal.returns-in-Ok-clause-bytes
returns-in-Ok-clause-bytes g c =
    rw (c.extend_from_slice.ensures.items, c.in-Ok.is)
    (subst (Appends _ _) (front_and_rest c.args.buf.now c.in_ok-count.count)
    (appended _ _ _ _ _ c.in_ok-count.ensures.sent))

use Rattle.mds_check.proofs.StateLemmas.{after_bytes-cut}
use Rattle.mds_check.proofs.crc.update.Goals as goal

pub eights-preserved : goal.eights-preserved
eights-preserved c =
    let whole = after_bytes-cut c.eights.state c.eights.rest.now 8 in
    let cases = c.in-Some.ensures.cases in
    cc (whole, cases.0, cases.1, c.behind_eight-state.ensures, c.eights.invariant)

use Rattle.std.proofs.Common.{[], ◌∷◌}
use Rattle.mds_check.specs.Crc.{after_byte}
use Rattle.mds_check.proofs.StateLemmas.{after_bytes-append}
use Rattle.mds_check.proofs.group.behind_text.Goals as goal

pub returns : goal.returns
returns c =
    let whole = after_bytes-append (after_byte c.args.state 32) c.args.text.now (10 ∷ []) in
    cc (whole, c.update_by_bytes.ensures, c.update.ensures, c.update_by_bytes-gate.ensures)

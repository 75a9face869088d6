use Rattle.std.proofs.Common.{◌∙◌, append-nil, arith, string_bytes, sym}
use Rattle.mds_metrics.proofs.TextLemmas.{past_lines}
use Rattle.mds_metrics.proofs.line.add_lines.Goals as goal

pub returns : goal.returns
returns c =
    let past = past_lines c.args.lines.now c.loop-line.line-index c.loop-line.left.now (omega (arith, c.loop-line-test.false)) in
    sym (append-nil (string_bytes c.loop-line.text)) ∙ (rw past at c.loop-line.invariant)

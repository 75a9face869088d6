use Rattle.std.proofs.Common.{◌+◌, [], ℕ, List, length, take, drop, ap, ◌∙◌, arith}
use Rattle.mds_journal.specs.Lines.{open_lines}
use Rattle.mds_follow.specs.Pieces.{texts_in}
use Rattle.mds_follow.proofs.PieceLemmas.{texts_more, texts_split}
use Rattle.mds_follow.proofs.EndLemmas.{line_bytes}
use Rattle.mds_follow.proofs.end.bytes_of.Goals as goal

-- no line has more bytes than all
pub overflow_add-bytes-in-loop-text : goal.overflow_add-bytes-in-loop-text
overflow_add-bytes-in-loop-text c =
    let texts = c.args.texts.now in
    let at = c.loop-text.text-index in
    let text = c.text-item.result in
    let whole = ap (λ (w : List (List ℕ)). length (open_lines w)) (texts_split texts at text c.loop-text-test.true c.text-item.is)
    ∙ line_bytes (texts_in (take at texts)) text.items (texts_in (drop (at + 1) texts)) in
    omega (arith, whole, c.loop-text.invariant, c.len.ensures, c.requires)

-- one line more
pub loop-text-preserved : goal.loop-text-preserved
loop-text-preserved c =
    let texts = c.args.texts.now in
    let at = c.loop-text.text-index in
    let text = c.text-item.result in
    let more = ap (λ (w : List (List ℕ)). length (open_lines w)) (texts_more texts at text c.loop-text-test.true c.text-item.is)
    ∙ line_bytes (texts_in (take at texts)) text.items [] in
    omega (arith, more, c.loop-text.invariant, c.len.ensures)

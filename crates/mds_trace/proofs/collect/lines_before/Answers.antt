use Rattle.std.proofs.Common.{rules, ◌≡◌, map, ◌∙◌}
use Rattle.std.proofs.lemmas.Result.{IfOk-weaker}
use Rattle.std.proofs.lemmas.Iterator.{YieldsList-from_slice, YieldsList-from_map, items_from_collect}
use Rattle.mds_batch.specs.Asking.{kept_fault}
use Rattle.mds_trace.specs.Parts.{line_before, line_by}
use Rattle.mds_trace.proofs.Asks.{lines_kept}
use Rattle.mds_trace.proofs.collect.lines_before.Goals as goal

pub returns : goal.returns
returns c =
    IfOk-weaker c.collect.result (λ lines. lines.items ≡ map (λ one. line_by (kept_fault one)) c.kept_items.result.now)
    (λ lines. lines.items ≡ map line_before c.args.items.now)
    (λ lines made. made ∙ lines_kept c.kept_items.result.now c.args.items.now c.kept_items.ensures)
    (items_from_collect _ c.collect.ensures.ran
    (YieldsList-from_map _ (λ one. line_by (kept_fault one)) (YieldsList-from_slice c.kept_items.result.now (cc)) c.map.ensures.closure (λ x r q k. search rules)))

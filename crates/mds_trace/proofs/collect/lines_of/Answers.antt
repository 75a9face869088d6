use Rattle.std.proofs.Common.{◌≡◌, List, ◌++◌, length, take, drop, map, sym, ◌∙◌, ap, subst, arith}
use Rattle.std.proofs.lemmas.List.{take-append-le, take_all}
use Rattle.mds_trace.specs.declared.report.Verdict.{Verdict}
use Rattle.mds_trace.specs.Parts.{line_before, all_told, ArePut}
use Rattle.mds_trace.proofs.collect.lines_of.Goals as goal

pub returns : goal.returns
returns c =
    let now = c.put_parts.new.lines in
    let before = c.in_ok-lines.lines in
    let count : length now ≡ before.len = c.put_parts.ensures.count ∙ ap length c.deref_mut.ensures.value ∙ sym before.ok.0 in
    let whole : take before.len (now ++ drop (length now) before.items) ≡ now =
    take-append-le before.len now (drop (length now) before.items) (omega (arith, count)) ∙ take_all before.len now (omega (arith, count)) in
    subst (λ (after : List Verdict). ArePut (all_told c.args.parts.now) (map line_before c.args.items.now) after) (sym whole)
    (subst (λ (lines : List Verdict). ArePut (all_told c.args.parts.now) lines now) (c.deref_mut.ensures.value ∙ c.in_ok-lines.ensures) c.put_parts.ensures)

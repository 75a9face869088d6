use Rattle.std.proofs.Common.{take, get_or, set, sym, subst}
use Rattle.std.proofs.lemmas.List.{take_more}
use Rattle.mds_table.specs.declared.state.State.TheVariants.{Removed}
use Rattle.mds_trace.specs.declared.report.Verdict.TheVariants.{Accepted}
use Rattle.mds_trace.specs.declared.part.ToldVerdict.{ToldVerdict}
use Rattle.mds_trace.specs.Parts.{ArePut}
use Rattle.mds_trace.proofs.Puts.{next_put}
use Rattle.mds_trace.proofs.collect.put_told.Goals as goal

pub loop-one-preserved : goal.loop-one-preserved
loop-one-preserved c =
    let i = c.loop-one.one-index in
    let one : ToldVerdict = get_or c.args.told.now i (record { index = 0; verdict = Accepted Removed }) in
    subst (λ told. ArePut told c.args.lines.now (set c.loop-one.lines one.index one.verdict)) (sym (take_more c.args.told.now i (record { index = 0; verdict = Accepted Removed }) c.loop-one-test.true))
    (next_put (take i c.args.told.now) one c.args.lines.now c.loop-one.lines c.loop-one.invariant)

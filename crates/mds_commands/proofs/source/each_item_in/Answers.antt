use Rattle.std.proofs.lemmas.Result.{IfErr-weaker}
use Rattle.mds_commands.specs.declared.source.Form.TheVariants.{Batch}
use Rattle.mds_commands.specs.Source.{ExplainsFile, IsBatchProblem}
use Rattle.mds_commands.proofs.BatchProblems.{of_bytes}
use Rattle.mds_commands.proofs.source.each_item_in.Goals as goal

pub returns-clause-err : goal.returns-clause-err
returns-clause-err g c =
    let bytes = c.in_ok-bytes.bytes.items in
    IfErr-weaker c.each_item_of_bytes.result (IsBatchProblem bytes) (ExplainsFile Batch g.R.Read.remaining c.args.source)
    (λ problem is. of_bytes g.R.Read.remaining c.args.source bytes problem c.in_ok-bytes.ensures.ok is)
    (rw c.deref.ensures.value at c.each_item_of_bytes.ensures.fault)

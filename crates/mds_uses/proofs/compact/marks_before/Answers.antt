use Rattle.std.proofs.lemmas.Result.{IfOk-weaker}
use Rattle.mds_compact.specs.Compaction.{kept_of}
use Rattle.mds_compact.proofs.Cuts.{lawful_compacted}
use Rattle.mds_uses.proofs.compact.marks_before.Goals as goal

pub returns-clause-lawful : goal.returns-clause-lawful
returns-clause-lawful c =
    IfOk-weaker c.compaction.result _ _
    (λ marks is tables lawful. lawful_compacted tables c.args.from c.args.history.now (kept_of marks.items c.args.history.now) lawful is)
    c.compaction.ensures.compaction

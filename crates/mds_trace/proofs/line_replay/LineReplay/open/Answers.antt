use Rattle.std.proofs.Common.{[], sym, subst}
use Rattle.mds_lines.specs.Fed.{Fed}
use Rattle.mds_lines.proofs.FeedLemmas.{none_ended}
use Rattle.mds_trace.specs.LinesTaken.{AreReplayed}
use Rattle.mds_trace.proofs.line_replay.LineReplay.open.Goals as goal

pub invariant_of-result : goal.invariant_of-result
invariant_of-result c = subst (λ (fed : Fed). AreReplayed fed.fault fed.bytes c.open.result) (sym c.open-2.ensures) ([], none_ended, c.open.ensures.took)

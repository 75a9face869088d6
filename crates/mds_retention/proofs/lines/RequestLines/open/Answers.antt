use Rattle.std.proofs.Common.{[]}
use Rattle.mds_retention.proofs.lines.RequestLines.open.Goals as goal

pub returns-clause-told : goal.returns-clause-told
returns-clause-told g c = ([], c.open.ensures.none, tt)

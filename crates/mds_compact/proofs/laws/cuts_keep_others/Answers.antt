use Rattle.mds_compact.proofs.Fronts.{others_kept}
use Rattle.mds_compact.proofs.laws.cuts_keep_others.Goals as goal

pub returns : goal.returns
returns c = others_kept

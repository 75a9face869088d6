use Rattle.mds_compact.proofs.Cuts.{lawful_compacted}
use Rattle.mds_compact.proofs.laws.compactions_are_lawful.Goals as goal

pub returns : goal.returns
returns c = lawful_compacted

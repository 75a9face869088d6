use Rattle.mds_compact.proofs.Fronts.{lawful_cut}
use Rattle.mds_compact.proofs.laws.cuts_are_lawful.Goals as goal

pub returns : goal.returns
returns c = lawful_cut

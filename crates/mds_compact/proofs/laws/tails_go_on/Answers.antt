use Rattle.mds_compact.proofs.Cuts.{lawful_tail}
use Rattle.mds_compact.proofs.laws.tails_go_on.Goals as goal

pub returns : goal.returns
returns c = lawful_tail

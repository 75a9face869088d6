use Rattle.mds_journal.proofs.LineLemmas.{front_nothing}
use Rattle.mds_journal.proofs.laws.fronts_of_ends_stand_for_nothing.Goals as goal

pub returns : goal.returns
returns c = front_nothing

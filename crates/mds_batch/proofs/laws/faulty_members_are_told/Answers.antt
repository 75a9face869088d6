use Rattle.mds_batch.proofs.ItemLaws.{faulty_members_are_told}
use Rattle.mds_batch.proofs.laws.faulty_members_are_told.Goals as goal

pub returns : goal.returns
returns c = faulty_members_are_told

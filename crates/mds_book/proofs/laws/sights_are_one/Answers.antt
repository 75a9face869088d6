use Rattle.mds_book.proofs.SightLaws.{sights_are_one}
use Rattle.mds_book.proofs.laws.sights_are_one.Goals as goal

pub returns : goal.returns
returns c all place next shard seat other begins is_seat is_other = sights_are_one all place next shard seat other begins is_seat is_other

use Rattle.mds_follow.proofs.Lives.{looks_stand}
use Rattle.mds_follow.proofs.laws.looks_stand_in_the_next_life.Goals as goal

pub returns : goal.returns
returns g c = looks_stand g.F.Record.left_since

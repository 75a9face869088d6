use Rattle.mds_follow.proofs.Lives.{answers_stand}
use Rattle.mds_follow.proofs.laws.answers_stand_in_the_next_life.Goals as goal

pub returns : goal.returns
returns g c = answers_stand g.F.Record.left_since

use Rattle.mds_follow.proofs.Disks.{texts_tell_one_list}
use Rattle.mds_follow.proofs.laws.lines_tell_one_list.Goals as goal

pub returns : goal.returns
returns c = texts_tell_one_list

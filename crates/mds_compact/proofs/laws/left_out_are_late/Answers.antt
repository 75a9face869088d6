use Rattle.mds_compact.proofs.Goes.{left_out_late}
use Rattle.mds_compact.proofs.laws.left_out_are_late.Goals as goal

pub returns : goal.returns
returns c = left_out_late

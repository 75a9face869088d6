use Rattle.mds_lines.proofs.LineLaws.{streams_have_one_fault}
use Rattle.mds_lines.proofs.laws.streams_have_one_fault.Goals as goal

pub returns : goal.returns
returns c = streams_have_one_fault

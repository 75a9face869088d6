use Rattle.mds_lines.proofs.LineLaws.{streams_with_items_have_no_fault}
use Rattle.mds_lines.proofs.laws.streams_with_items_have_no_fault.Goals as goal

pub returns : goal.returns
returns c = streams_with_items_have_no_fault

use Rattle.mds_lines.proofs.LineLaws.{streams_have_one_list_of_items}
use Rattle.mds_lines.proofs.laws.streams_have_one_list_of_items.Goals as goal

pub returns : goal.returns
returns c = streams_have_one_list_of_items

use Rattle.std.proofs.Common.{sym}
use Rattle.mds_table.proofs.Named.{state_of_name-is}
use Rattle.mds_table.proofs.json.state_of.Goals as goal

pub returns : goal.returns
returns c = rw (sym c.in_ok-as_str.ensures) (state_of_name-is c.of_name.result _ c.of_name.ensures.found c.of_name.ensures.none)

use Rattle.mds_compact.proofs.Goes.{run_goes_on}
use Rattle.mds_compact.proofs.laws.runs_go_on.Goals as goal

pub returns : goal.returns
returns c = run_goes_on

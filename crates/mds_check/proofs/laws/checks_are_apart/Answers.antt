use Rattle.mds_check.proofs.FormLemmas.{checks_are_apart}
use Rattle.mds_check.proofs.laws.checks_are_apart.Goals as goal

pub returns : goal.returns
returns c = checks_are_apart

use Rattle.mds_http.proofs.VerdictLaws.{counts_add_up}
use Rattle.mds_http.proofs.laws.counts_add_up.Goals as goal

pub returns : goal.returns
returns c = counts_add_up

use Rattle.mds_http.proofs.VerdictLaws.{memory_names_the_next}
use Rattle.mds_http.proofs.laws.memory_names_the_next.Goals as goal

pub returns : goal.returns
returns c = memory_names_the_next

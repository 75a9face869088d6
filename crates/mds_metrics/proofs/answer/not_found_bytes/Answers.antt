use Rattle.std.proofs.Common.{refl}
use Rattle.std.specs.Fmt.{digits}
use Rattle.mds_metrics.proofs.answer.not_found_bytes.Goals as goal

pub returns : goal.returns
unfolding digits
returns c = rw c.as_bytes.ensures.value refl

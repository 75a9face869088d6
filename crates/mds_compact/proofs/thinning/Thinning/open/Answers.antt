use Rattle.std.proofs.Common.{refl}
use Rattle.indexmap.specs.IndexMap.{get}
use Rattle.mds_core.specs.History.{same_key}
use Rattle.mds_compact.proofs.Passes.{thinned_begins}
use Rattle.mds_compact.proofs.thinning.Thinning.open.Goals as goal

pub returns : goal.returns
returns c = λ history is. record { since = refl; paths = λ key. rw c.into_paths.ensures (thinned_begins c.args.from history key (get same_key c.args.survey.paths key) (is key)) }

use Rattle.std.proofs.Common.{refl}
use Rattle.indexmap.specs.IndexMap.{get}
use Rattle.mds_core.specs.History.{same_key}
use Rattle.mds_compact.proofs.Passes.{marked_begins}
use Rattle.mds_compact.proofs.marking.Marking.open.Goals as goal

pub returns : goal.returns
returns c = λ from history is. record { count = refl; paths = λ key. rw c.into_paths.ensures (marked_begins from history key (get same_key c.args.thinning.paths key) (is.paths key)) }

use Rattle.indexmap.specs.IndexMap.{get}
use Rattle.mds_core.specs.History.{same_key}
use Rattle.mds_compact.proofs.Passes.{marked_is}
use Rattle.mds_compact.proofs.laws.marked_are_compactions.Goals as goal

pub returns : goal.returns
returns c = λ from history marks marking is. marked_is from history marks (get same_key marking.paths) is.paths

use Rattle.std.proofs.Common.{List, length}
use Rattle.serde_json.specs.Data.{Data}
use Rattle.mds_batch.proofs.Turns.{ItemsSoFar}
use Rattle.mds_batch.proofs.tokens.read_items.Given as goal

abbrev pub invariant-loop-sequence : goal.invariant-loop-sequence
invariant-loop-sequence g l = (values : List Data) × ItemsSoFar l.depth l.initial.tokens l.tokens values × g.S.Sequence.holds l.initial.taker values l.sequence l.taker

abbrev pub decreases-loop-sequence : goal.decreases-loop-sequence
decreases-loop-sequence g l = length l.tokens

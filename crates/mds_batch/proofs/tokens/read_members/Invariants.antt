use Rattle.std.proofs.Common.{length}
use Rattle.serde_json.specs.Data.{Members}
use Rattle.mds_batch.proofs.Turns.{MembersSoFar}
use Rattle.mds_batch.proofs.tokens.read_members.Given as goal

abbrev pub invariant-loop-name : goal.invariant-loop-name
invariant-loop-name g l = (found : Members) × MembersSoFar l.depth l.initial.tokens l.tokens found × g.F.Fields.holds found l.fields

abbrev pub decreases-loop-name : goal.decreases-loop-name
decreases-loop-name g l = length l.tokens

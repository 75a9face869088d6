use Rattle.std.proofs.Common.{List, ◌+◌, ◌*◌, length}
use Rattle.serde_json.specs.Data.{Data, Members}
use Rattle.mds_batch.proofs.Turns.{ItemsSoFar, MembersSoFar}
use Rattle.mds_batch.proofs.tokens.+pass.Given as goal

abbrev pub decreases-pass : goal.decreases-pass
decreases-pass l = 2 * l.depth

abbrev pub decreases-pass_items : goal.decreases-pass_items
decreases-pass_items l = 2 * l.depth + 1

abbrev pub decreases-pass_members : goal.decreases-pass_members
decreases-pass_members l = 2 * l.depth + 1

abbrev pub invariant-pass_items-loop-tokens : goal.invariant-pass_items-loop-tokens
invariant-pass_items-loop-tokens l = (values : List Data) × ItemsSoFar l.depth l.initial.tokens l.tokens values

abbrev pub decreases-pass_items-loop-tokens : goal.decreases-pass_items-loop-tokens
decreases-pass_items-loop-tokens l = length l.tokens

abbrev pub invariant-pass_members-loop-tokens : goal.invariant-pass_members-loop-tokens
invariant-pass_members-loop-tokens l = (found : Members) × MembersSoFar l.depth l.initial.tokens l.tokens found

abbrev pub decreases-pass_members-loop-tokens : goal.decreases-pass_members-loop-tokens
decreases-pass_members-loop-tokens l = length l.tokens

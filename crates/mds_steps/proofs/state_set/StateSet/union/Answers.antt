use Rattle.mds_steps.proofs.Members.{union_states}
use Rattle.mds_steps.proofs.state_set.StateSet.union.Goals as goal

pub returns : goal.returns
returns c = λ state. rw (c.of_mask.ensures, ← c.self.view_is, ← c.other.view_is) (union_states c.self.inside.bits.0 c.other.inside.bits.0 state)

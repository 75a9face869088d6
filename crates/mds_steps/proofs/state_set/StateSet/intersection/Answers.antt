use Rattle.mds_steps.proofs.Members.{common_states}
use Rattle.mds_steps.proofs.state_set.StateSet.intersection.Goals as goal

pub returns : goal.returns
returns c = λ state. rw (c.of_mask.ensures, ← c.self.view_is, ← c.other.view_is) (common_states c.self.inside.bits.0 c.other.inside.bits.0 state)

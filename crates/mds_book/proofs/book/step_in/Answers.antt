use Rattle.mds_book.proofs.Slots.{stepped_if}
use Rattle.mds_book.proofs.book.step_in.Goals as goal

-- what the slot answered is what the shard behind the lock answers
pub returns-clause-stepped : goal.returns-clause-stepped
returns-clause-stepped g c = stepped_if _ _ _ _ c.step.result c.step.ensures.is_shard c.step.ensures.step c.step.ensures.shown

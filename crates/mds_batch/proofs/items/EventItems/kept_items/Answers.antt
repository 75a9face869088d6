use Rattle.mds_batch.proofs.KeptLemmas.{same_faults}
use Rattle.mds_batch.proofs.items.EventItems.kept_items.Goals as goal

pub returns : goal.returns
returns c = rw (c.deref.ensures.value, ← c.self.view_is) (same_faults c.self.inside.names.items c.self.inside.items.items)

use Rattle.std.proofs.Common.{refl}
use Rattle.mds_core.proofs.ListedEvents.{events_reversed}
use Rattle.mds_core.proofs.event_list.EventList.reverse.Goals as goal

pub returns : goal.returns
returns c = rw (c.reverse.ensures.items, ← c.self.view_is, events_reversed c.self.inside.names.items c.self.inside.kept.items) refl

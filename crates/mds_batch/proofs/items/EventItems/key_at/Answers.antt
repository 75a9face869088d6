use Rattle.std.proofs.Common.{Some, refl, ap}
use Rattle.mds_batch.specs.Kept.{item_in}
use Rattle.mds_batch.specs.declared.kept.KeptItem.TheVariants as kept
use Rattle.mds_batch.proofs.KeptLemmas.{item_at}
use Rattle.mds_batch.proofs.items.EventItems.key_at.Goals as goal

pub returns-in-Event : goal.returns-in-Event
returns-in-Event c =
    let one = kept.Event c.in-Event.kept in (
      item_in c.self.inside.names.items one,
      item_at c.self.inside.names.items c.self.inside.items.items c.args.self.now c.args.at c.index.result.now one c.self.view_is c.requires c.index.ensures c.in-Event.is,
      ap Some c.key.ensures,
    )

pub returns-in-Fault : goal.returns-in-Fault
returns-in-Fault c =
    let one = kept.Fault c.in-Fault.field-0 in (
      item_in c.self.inside.names.items one,
      item_at c.self.inside.names.items c.self.inside.items.items c.args.self.now c.args.at c.index.result.now one c.self.view_is c.requires c.index.ensures c.in-Fault.is,
      refl,
    )

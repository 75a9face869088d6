use Rattle.mds_batch.specs.Items.{IsEventItem}
use Rattle.mds_batch.proofs.ItemLaws.{one_event_item}
use Rattle.mds_batch.proofs.BatchLaws.{one_list}
use Rattle.mds_uses.proofs.pieces.read_twice.Goals as goal

pub returns : goal.returns
returns g c = one_list IsEventItem one_event_item c.args.text.now c.in_ok-alone.alone c.in_ok-shared.shared c.in_ok-alone.ensures.items c.in_ok-shared.ensures.items

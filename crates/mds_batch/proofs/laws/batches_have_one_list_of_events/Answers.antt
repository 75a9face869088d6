use Rattle.mds_batch.specs.Items.{IsEventItem}
use Rattle.mds_batch.proofs.ItemLaws.{one_event_item}
use Rattle.mds_batch.proofs.BatchLaws.{one_list}
use Rattle.mds_batch.proofs.laws.batches_have_one_list_of_events.Goals as goal

pub returns : goal.returns
returns c = one_list IsEventItem one_event_item

use Rattle.mds_batch.specs.Items.{IsVehicleItem}
use Rattle.mds_batch.proofs.ItemLaws.{one_vehicle_item}
use Rattle.mds_batch.proofs.BatchLaws.{one_list}
use Rattle.mds_batch.proofs.laws.batches_have_one_list_of_vehicles.Goals as goal

pub returns : goal.returns
returns c = one_list IsVehicleItem one_vehicle_item

use Rattle.mds_batch.specs.declared.member.Member.TheVariants.{ProviderId, DeviceId}
use Rattle.mds_batch.specs.Forms.{uuid_in}
use Rattle.mds_batch.proofs.MemberLemmas.{good_member}
use Rattle.mds_batch.proofs.vehicle.VehicleFields.key.Goals as goal

pub returns-clause-key : goal.returns-clause-key
returns-clause-key c = λ found holds. record {
  provider = good_member uuid_in ProviderId found _ _ c.in_ok-provider.ensures.value holds.provider;
  device = good_member uuid_in DeviceId found _ _ c.in_ok-device.ensures.value holds.device;
}

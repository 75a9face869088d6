use Rattle.std.proofs.Common.{Some, refl, ap, sym, ◌∙◌}
use Rattle.mds_batch.specs.declared.member.Member.TheVariants.{ProviderId, DeviceId}
use Rattle.mds_batch.specs.Member.{member_name}
use Rattle.mds_batch.proofs.PutLemmas.{same_name, vehicle_put}
use Rattle.mds_batch.proofs.vehicle.VehicleFieldsFields.take.Goals as goal

pub returns-in_ok-read_uuid-clause-taken : goal.returns-in_ok-read_uuid-clause-taken
returns-in_ok-read_uuid-clause-taken c =
    let read = c.in_ok-read_uuid.ensures.read in
    let is = same_name c.args.name.now (member_name ProviderId) (sym c.is_named.ensures ∙ c.if-is_named.true) in
    (read.0, read.1, λ found holds. rw is (vehicle_put _ read.0 found c.args.self.now _ holds (c.of-self.ensures ∙ ap Some read.2) refl))

pub returns-in_ok-read_uuid-2-clause-taken : goal.returns-in_ok-read_uuid-2-clause-taken
returns-in_ok-read_uuid-2-clause-taken c =
    let read = c.in_ok-read_uuid-2.ensures.read in
    let is = same_name c.args.name.now (member_name DeviceId) (sym c.is_named-else-is_named.ensures ∙ c.if-is_named-2.true) in
    (read.0, read.1, λ found holds. rw is (vehicle_put _ read.0 found c.args.self.now _ holds refl (c.of-self-then-is_named-2.ensures ∙ ap Some read.2)))

pub returns-in_ok-pass-clause-taken : goal.returns-in_ok-pass-clause-taken
returns-in_ok-pass-clause-taken c =
    let read = c.in_ok-pass.ensures.head in (
      read.0,
      read.1,
      λ found holds.
          vehicle_put _ read.0 found _ _ holds (rw (sym c.is_named.ensures ∙ c.if-is_named.false))
          (rw (sym c.is_named-else-is_named.ensures ∙ c.if-is_named-2.false)),
    )

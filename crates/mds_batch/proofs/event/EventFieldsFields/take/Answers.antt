use Rattle.std.proofs.Common.{Some, refl, ap, sym, ◌∙◌, option_map}
use Rattle.mds_batch.specs.declared.member.Member.TheVariants.{EventId, VehicleState, EventTypes, Timestamp, LocationE7}
use Rattle.mds_batch.specs.Member.{member_name}
use Rattle.mds_batch.proofs.PutLemmas.{same_name, vehicle_put, event_put}
use Rattle.mds_batch.proofs.event.EventFieldsFields.take.Goals as goal

pub returns-in_ok-read_uuid-clause-taken : goal.returns-in_ok-read_uuid-clause-taken
returns-in_ok-read_uuid-clause-taken c =
    let read = c.in_ok-read_uuid.ensures.read in
    let is = same_name c.args.name.now (member_name EventId) (sym c.is_named.ensures ∙ c.if-is_named.true) in
    (read.0, read.1, λ found holds. rw is (event_put _ read.0 found c.args.self.now _ holds (vehicle_put _ read.0 found _ _ holds.vehicle refl refl) (c.of-self.ensures ∙ ap Some read.2) refl refl refl refl))

pub returns-in_ok-read_state-clause-taken : goal.returns-in_ok-read_state-clause-taken
returns-in_ok-read_state-clause-taken c =
    let read = c.in_ok-read_state.ensures.read in
    let is = same_name c.args.name.now (member_name VehicleState) (sym c.is_named-else-is_named.ensures ∙ c.if-is_named-2.true) in
    (read.0, read.1, λ found holds. rw is (event_put _ read.0 found c.args.self.now _ holds (vehicle_put _ read.0 found _ _ holds.vehicle refl refl) refl (c.of-self-then-is_named-2.ensures ∙ ap Some read.2) refl refl refl))

pub returns-in_ok-read_types-clause-taken : goal.returns-in_ok-read_types-clause-taken
returns-in_ok-read_types-clause-taken c =
    let read = c.in_ok-read_types.ensures.read in
    let is = same_name c.args.name.now (member_name EventTypes) (sym c.is_named-else-is_named-2.ensures ∙ c.if-is_named-3.true) in
    (read.0, read.1, λ found holds. rw is (event_put _ read.0 found c.args.self.now _ holds (vehicle_put _ read.0 found _ _ holds.vehicle refl refl) refl refl (ap (option_map (option_map (λ is. c.read_types.new.types.names.items))) c.of-self-then-is_named-3.ensures ∙ ap Some read.2) refl refl))

pub returns-in_ok-read_time-clause-taken : goal.returns-in_ok-read_time-clause-taken
returns-in_ok-read_time-clause-taken c =
    let read = c.in_ok-read_time.ensures.read in
    let is = same_name c.args.name.now (member_name Timestamp) (sym c.is_named-else-is_named-3.ensures ∙ c.if-is_named-4.true) in
    (read.0, read.1, λ found holds. rw is (event_put _ read.0 found c.args.self.now _ holds (vehicle_put _ read.0 found _ _ holds.vehicle refl refl) refl refl refl (c.of-self-then-is_named-4.ensures ∙ ap Some read.2) refl))

pub returns-in_ok-read_position-clause-taken : goal.returns-in_ok-read_position-clause-taken
returns-in_ok-read_position-clause-taken c =
    let read = c.in_ok-read_position.ensures.read in
    let is = same_name c.args.name.now (member_name LocationE7) (sym c.is_named-else-is_named-4.ensures ∙ c.if-is_named-5.true) in
    (read.0, read.1, λ found holds. rw is (event_put _ read.0 found c.args.self.now _ holds (vehicle_put _ read.0 found _ _ holds.vehicle refl refl) refl refl refl refl (c.of-self-then-is_named-5.ensures ∙ ap Some read.2)))

pub returns-in_ok-take-clause-taken : goal.returns-in_ok-take-clause-taken
returns-in_ok-take-clause-taken c =
    let read = c.in_ok-take.ensures.taken in (
      read.0,
      read.1,
      λ found holds.
          event_put _ read.0 found c.args.self.now _ holds (read.2 found holds.vehicle) (rw (sym c.is_named.ensures ∙ c.if-is_named.false))
          (rw (sym c.is_named-else-is_named.ensures ∙ c.if-is_named-2.false)) (rw (sym c.is_named-else-is_named-2.ensures ∙ c.if-is_named-3.false))
          (rw (sym c.is_named-else-is_named-3.ensures ∙ c.if-is_named-4.false)) (rw (sym c.is_named-else-is_named-4.ensures ∙ c.if-is_named-5.false)),
    )

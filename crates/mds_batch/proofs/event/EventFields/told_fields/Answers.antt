use Rattle.std.proofs.Common.{◌≡◌, rules, Some}
use Rattle.serde_json.specs.Data.{object}
use Rattle.mds_table.specs.Json.{state_in, time_in}
use Rattle.mds_batch.specs.declared.member.Member.TheVariants.{EventId, VehicleState, EventTypes, Timestamp}
use Rattle.mds_batch.specs.Forms.{uuid_in, types_in}
use Rattle.mds_batch.specs.Items.{fault_of, event_members}
use Rattle.mds_batch.proofs.ItemLemmas.{fault_of-event}
use Rattle.mds_batch.proofs.MemberLemmas.{good_member, bad_member, good_types, bad_types}
use Rattle.mds_batch.proofs.event.EventFields.told_fields.Goals as goal

pub returns-in_err-key-clause-fault : goal.returns-in_err-key-clause-fault
returns-in_err-key-clause-fault c = λ found holds. search (rules, fault_of-event (object found) c.in_err-key.field-0.0 (c.in_err-key.ensures.fault found holds.vehicle))

pub returns-in_err-state-clause-fault : goal.returns-in_err-state-clause-fault
returns-in_err-state-clause-fault c = λ found holds.
    let key = c.in_ok-key.ensures.key found holds.vehicle in
    let id = good_member uuid_in EventId found _ _ c.in_ok-id.ensures.value holds.id in
    let bad = bad_member state_in VehicleState found _ _ c.in_err-state.ensures.fault holds.state in
    let wrong : fault_of event_members (object found) ≡ Some c.in_err-state.field-0.0 = simp (key.provider, key.device, id, bad.0, bad.1) in
    search (rules, wrong)

pub returns-in_err-require-clause-fault : goal.returns-in_err-require-clause-fault
returns-in_err-require-clause-fault c = λ found holds.
    let key = c.in_ok-key.ensures.key found holds.vehicle in
    let id = good_member uuid_in EventId found _ _ c.in_ok-id.ensures.value holds.id in
    let state = good_member state_in VehicleState found _ _ c.in_ok-state.ensures.value holds.state in
    let bad = bad_member types_in EventTypes found _ _ (bad_types _ c.args.self.now.types _ c.in_err-require.ensures.fault) holds.types in
    let wrong : fault_of event_members (object found) ≡ Some c.in_err-require.field-0.0 = simp (key.provider, key.device, id, state, bad.0, bad.1) in
    search (rules, wrong)

pub returns-in_err-time-clause-fault : goal.returns-in_err-time-clause-fault
returns-in_err-time-clause-fault c = λ found holds.
    let key = c.in_ok-key.ensures.key found holds.vehicle in
    let id = good_member uuid_in EventId found _ _ c.in_ok-id.ensures.value holds.id in
    let state = good_member state_in VehicleState found _ _ c.in_ok-state.ensures.value holds.state in
    let types = good_member types_in EventTypes found _ _ (good_types _ c.args.self.now.types c.in_ok-require.ensures.value) holds.types in
    let bad = bad_member time_in Timestamp found _ _ c.in_err-time.ensures.fault holds.time in
    let wrong : fault_of event_members (object found) ≡ Some c.in_err-time.field-0.0 = simp (key.provider, key.device, id, state, types, bad.0, bad.1) in
    search (rules, wrong)

pub returns-in_err-position-clause-fault : goal.returns-in_err-position-clause-fault
returns-in_err-position-clause-fault c = λ found holds.
    let key = c.in_ok-key.ensures.key found holds.vehicle in
    let id = good_member uuid_in EventId found _ _ c.in_ok-id.ensures.value holds.id in
    let state = good_member state_in VehicleState found _ _ c.in_ok-state.ensures.value holds.state in
    let types = good_member types_in EventTypes found _ _ (good_types _ c.args.self.now.types c.in_ok-require.ensures.value) holds.types in
    let time = good_member time_in Timestamp found _ _ c.in_ok-time.ensures.value holds.time in
    let bad = c.in_err-position.ensures.fault found holds in
    let wrong : fault_of event_members (object found) ≡ Some c.in_err-position.field-0.0 = simp (key.provider, key.device, id, state, types, time, bad.0, bad.1) in
    search (rules, wrong)

pub returns-clause-event : goal.returns-clause-event
returns-clause-event c = λ found holds.
    let key = c.in_ok-key.ensures.key found holds.vehicle in
    let id = good_member uuid_in EventId found _ _ c.in_ok-id.ensures.value holds.id in
    let state = good_member state_in VehicleState found _ _ c.in_ok-state.ensures.value holds.state in
    let types = good_member types_in EventTypes found _ _ (good_types _ c.args.self.now.types c.in_ok-require.ensures.value) holds.types in
    let time = good_member time_in Timestamp found _ _ c.in_ok-time.ensures.value holds.time in
    let position = c.in_ok-position.ensures.position found holds in
    record { provider = key.provider; device = key.device; id = id; state = state; types = types; time = time; position = position }

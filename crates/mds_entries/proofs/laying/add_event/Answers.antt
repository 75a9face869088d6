use Rattle.std.proofs.Common.{append_assoc}
use Rattle.mds_entries.proofs.Pieces.{with_last}
use Rattle.mds_entries.proofs.laying.add_event.Goals as goal

pub returns : goal.returns
returns c =
    let key = c.key.ensures in
    let device = rw key at c.in_ok-add_uuid.ensures in
    let provider = rw key at c.in_ok-add_uuid-3.ensures in
    let id = rw c.id.ensures at c.in_ok-add_uuid-2.ensures in
    let types = rw c.types-types.ensures.types at c.in_ok-add_types.ensures in
    let position = rw c.position.ensures at c.in_ok-add_position.ensures in
    let time = rw c.time.ensures.time at c.in_ok-add_time.ensures in
    let state = rw (c.name.ensures, c.state.ensures) at c.in_ok-push_str-8.ensures.bytes in
    rw (c.push_str-9.ensures.bytes) (with_last c.push_str-9.result _ _ _
    (rw (
      state,
      c.in_ok-push_str-7.ensures.bytes,
      time,
      c.in_ok-push_str-6.ensures.bytes,
      provider,
      c.in_ok-push_str-5.ensures.bytes,
      position,
      c.in_ok-push_str-4.ensures.bytes,
      types,
      c.in_ok-push_str-3.ensures.bytes,
      id,
      c.in_ok-push_str-2.ensures.bytes,
      device,
      c.in_ok-push_str.ensures.bytes,
      c.in_ok-reserve.ensures.bytes,
    )
    (simp append_assoc)))

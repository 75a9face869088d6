use Rattle.std.proofs.Common.{◌≡◌, is_some, true}
use Rattle.mds_waiting.proofs.SlotLemmas.{one_more_left}
use Rattle.mds_waiting.proofs.waiting.Waiting.clear_room.Goals as goal

pub loop-preserved : goal.loop-preserved
loop-preserved g c =
    let before = c.loop.invariant in
    let somebody : is_some c.make_room.result ≡ true = rw (← c.is_some.ensures) c.if-is_some.true in
    one_more_left before.0 _ _ _ _ c.make_room.result somebody before.1 c.make_room.ensures.left c.make_room.ensures.needed

use Rattle.std.proofs.Common.{◌≡◌, ◌≤◌, length, drop, All}
use Rattle.mds_follow.proofs.end.without_room.Given as goal

-- only line feeds stand behind
abbrev pub invariant-room : goal.invariant-room
invariant-room l = record {
  within : l.end ≤ length l.bytes;
  feeds : All (λ byte. byte ≡ 10) (drop l.end l.bytes);
}

abbrev pub decreases-room : goal.decreases-room
decreases-room l = l.end

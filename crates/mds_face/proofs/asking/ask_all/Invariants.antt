use Rattle.std.proofs.Common.{◌≡◌, ◌≤◌, length, vec_len, vec_capacity}
use Rattle.mds_face.proofs.CallLemmas.{GoOnFrom}
use Rattle.mds_face.proofs.asking.ask_all.Given as goal

-- what is left goes on behind the replies so far, for which there is room
abbrev pub invariant-loop-at : goal.invariant-loop-at
invariant-loop-at g l = record {
  calls : GoOnFrom g.D.Desk.calls l.initial.desk g.I.BatchItems.asked (g.I.BatchItems.items l.items) l.desk l.at l.replies.items;
  count : l.count ≡ length (g.I.BatchItems.items l.items);
  room : l.count ≤ vec_capacity l.replies;
  filled : vec_len l.replies ≤ l.at;
}

use Rattle.std.proofs.Common.{ℕ, ◌<◌, ◌≤◌}
use Rattle.mds_settle.specs.Notes.{notes_at}
use Rattle.mds_settle.proofs.count.walk_length.Given as goal

-- each place so far has an accepted note
abbrev pub invariant-loop-place : goal.invariant-loop-place
invariant-loop-place g l = (q : ℕ) → q < l.place → 1 ≤ notes_at l.shard q g.S.NoteList.seen l.lists

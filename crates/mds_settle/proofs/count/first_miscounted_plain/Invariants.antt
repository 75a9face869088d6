use Rattle.mds_settle.specs.Bounds.{AreOnceBelow}
use Rattle.mds_settle.proofs.count.first_miscounted_plain.Given as goal

-- each place so far has exactly one accepted note
abbrev pub invariant-loop-place : goal.invariant-loop-place
invariant-loop-place g l = AreOnceBelow l.shard l.place g.S.NoteList.seen l.lists

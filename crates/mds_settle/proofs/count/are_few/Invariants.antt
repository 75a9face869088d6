use Rattle.std.proofs.Common.{◌≡◌, ◌+◌, ◌-◌, take}
use Rattle.mds_settle.specs.Bounds.{notes_below}
use Rattle.mds_settle.proofs.count.are_few.Given as goal

-- what is left of one more than there are places after the notes of the lists so far
abbrev pub invariant-loop-list : goal.invariant-loop-list
invariant-loop-list g l = l.left ≡ (l.place + 1) - notes_below l.shard l.place g.S.NoteList.seen (take l.list-index l.lists)

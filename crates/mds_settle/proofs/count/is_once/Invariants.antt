use Rattle.std.proofs.Common.{◌≡◌, ◌-◌, take}
use Rattle.mds_settle.specs.Notes.{notes_at}
use Rattle.mds_settle.proofs.count.is_once.Given as goal

-- what is left of two after the notes of the lists so far
abbrev pub invariant-loop-list : goal.invariant-loop-list
invariant-loop-list g l = l.left ≡ 2 - notes_at l.shard l.place g.S.NoteList.seen (take l.list-index l.lists)

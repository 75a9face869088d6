use Rattle.std.proofs.Common.{◌<◌, ◌≤◌, ◌-◌}
use Rattle.mds_settle.specs.Bounds.{notes_below}
use Rattle.mds_settle.proofs.count.first_twice.Given as goal

-- below the lower place there are no more accepted notes than places, below the upper one there are more
abbrev pub invariant-loop-many : goal.invariant-loop-many
invariant-loop-many g l = record {
  apart : l.few < l.many;
  within : l.many ≤ l.fn.end;
  few : notes_below l.shard l.few g.S.NoteList.seen l.lists ≤ l.few;
  many : l.many < notes_below l.shard l.many g.S.NoteList.seen l.lists;
}

abbrev pub decreases-loop-many : goal.decreases-loop-many
decreases-loop-many g l = l.many - l.few

use Rattle.std.proofs.Common.{◌≡◌, Some, sym}
use Rattle.std.specs.List.{slice_get}
use Rattle.mds_face.proofs.ListedLemmas.{listed_more, is_there}
use Rattle.mds_face.proofs.desk.list_of_tables.Goals.{in-Some+in_ok-rows+in_ok-push, in_default}
use Rattle.mds_face.proofs.desk.list_of_tables.Goals as goal

pub loop-at-preserved : goal.loop-at-preserved
loop-at-preserved c = elim c.match-entry.branch [
  | in-Some+in_ok-rows+in_ok-push w ↦
      let next : slice_get c.args.tables.now c.loop-at.at ≡ Some (w.in-Some.start, w.in_ok-rows.rows.items) =
      rw (w.in_ok-rows.ensures.rows, ← w.in-Some.ensures) cc in
      rw (w.list-is, w.in_ok-push.ensures.items) (listed_more c.loop-at.list.items c.args.tables.now c.loop-at.at w.in-Some.start w.in_ok-rows.rows c.loop-at.invariant next)
  | in_default w ↦
      let within = rw c.len-at-end.ensures.len at c.loop-at-test.true in
      absurd (is_there c.args.tables.now c.loop-at.at within (sym (rw w.in_default.is at c.entry.ensures)))
]

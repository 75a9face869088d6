use Rattle.std.proofs.Common.{◌≤◌, ℕ, List}
use Rattle.mds_retention.specs.Draft.{IsDraft}
use Rattle.mds_retention.specs.NewJournal.{IsNewJournal}
use Rattle.mds_retention.proofs.new_journal.read_to_end.Given as goal

-- the new journal has all that it is to have so far
abbrev pub invariant-loop : goal.invariant-loop
invariant-loop g l = record {
  usable : g.D.Device.may_be_used l.draft.file;
  draft : IsDraft g.D.Device.seen g.D.Device.may_leave g.D.Device.is_true l.draft;
  within : l.reached.totals.kept ≤ l.reached.totals.events;
  seen : (from : ℕ) (first : List ℕ)
      → IsNewJournal g.D.Device.seen g.D.Device.may_leave g.D.Device.is_true from first (g.F.Followed.content l.fn.followed) (record { draft = l.fn.draft; reached = l.fn.start })
      → IsNewJournal g.D.Device.seen g.D.Device.may_leave g.D.Device.is_true from first (g.F.Followed.content l.followed) (record { draft = l.draft; reached = l.reached });
}

use Rattle.std.proofs.Common.{◌++◌, subst}
use Rattle.mds_file.specs.Followed.{Grows}
use Rattle.mds_retention.proofs.Drafts.{all_written}
use Rattle.mds_retention.proofs.NewJournals.{followed_to, journal_fault, journal_on}
use Rattle.mds_retention.proofs.Telling.{passed_on}
use Rattle.mds_retention.proofs.new_journal.read_to_end.Goals as goal

pub loop-init : goal.loop-init
loop-init g c = record { usable = c.requires.usable; draft = c.requires.draft; within = c.requires.within; seen = λ from first is. is }

pub loop-preserved : goal.loop-preserved
loop-preserved g c =
    let content = g.F.Followed.content in
    let grows = subst (λ was. Grows was (content c.read_on.new.followed)) c.in_ok-is_left.ensures.same c.in_ok-reached.ensures.grows in
    record {
      usable = c.in_ok-reached.ensures.usable;
      draft = c.in_ok-reached.ensures.draft;
      within = c.in_ok-reached.ensures.within;
      seen = λ from first is. journal_on g.D.Device.seen g.D.Device.may_leave g.D.Device.is_true from first (content c.loop.followed) (content c.read_on.new.followed) c.loop.reached c.in_ok-reached.reached
          c.loop.draft c.read_on.new.draft grows c.in_ok-reached.ensures.read (c.loop.invariant.seen from first is);
    }

pub returns-then-is_left-clause-written : goal.returns-then-is_left-clause-written
returns-then-is_left-clause-written g c = λ from first is.
    let seen = g.D.Device.seen in
    let content = g.F.Followed.content in
    let grows = subst (λ was. Grows was (content c.read_on.new.followed)) c.in_ok-is_left.ensures.same c.in_ok-reached.ensures.grows in
    let now = journal_on seen g.D.Device.may_leave g.D.Device.is_true from first (content c.loop.followed) (content c.read_on.new.followed) c.loop.reached c.in_ok-reached.reached c.loop.draft
    c.read_on.new.draft grows c.in_ok-reached.ensures.read (c.loop.invariant.seen from first is) in
    let texts = now.2.kept ++ now.2.rest in
    let written = all_written seen g.D.Device.may_leave g.D.Device.is_true texts c.flush.new.self c.in_ok-flush.ensures.page c.in_ok-flush.ensures.group (c.in_ok-flush.ensures.draft texts now.5) in
    (now.0, now.1, written.0, followed_to from first now.0 written.0 c.in_ok-reached.reached.totals now.2 now.4 written.1, written.2)

pub returns-in_err-reached-clause-fault : goal.returns-in_err-reached-clause-fault
returns-in_err-reached-clause-fault g c =
    let content = g.F.Followed.content in
    let grows = subst (λ was. Grows was (content c.read_on.new.followed)) c.in_ok-is_left.ensures.same c.in_err-reached.ensures.grows in
    passed_on _ _ _ c.from_residual-in_err-reached.ensures.1
    (λ from first is. journal_fault g.D.Device.seen g.D.Device.may_leave g.D.Device.is_true from first (content c.loop.followed) (content c.read_on.new.followed) c.loop.reached c.loop.draft c.in_err-reached.field-0.0 grows
    c.in_err-reached.ensures.fault (c.loop.invariant.seen from first is))

use Rattle.std.proofs.Common.{ℕ, Bool, List, inl, inr, length, subst}
use Rattle.mds_retention.specs.Copying.{HasKept}
use Rattle.mds_retention.specs.Draft.{IsDraftOf}
use Rattle.mds_retention.specs.Compacting.{IsWriteFault}
use Rattle.mds_retention.proofs.NewJournals.{begin_fault, begun}
use Rattle.mds_retention.proofs.Telling.{passed_on}
use Rattle.mds_retention.proofs.new_journal.begin_draft.Goals as goal

pub read_on-requires-clause-draft : goal.read_on-requires-clause-draft
read_on-requires-clause-draft g c = (c.in_ok-kept_lines.ensures.kept.0, c.in_ok-kept_lines.ensures.kept.2)

pub returns-clause-open : goal.returns-clause-open
returns-clause-open g c = record { usable = c.in_ok-reached.ensures.usable; draft = c.in_ok-reached.ensures.draft; within = c.in_ok-reached.ensures.within }

pub returns-clause-begun : goal.returns-clause-begun
returns-clause-begun g c = λ from bytes first again since.
    let known = g.R.Read.remaining c.args.reader in
    let content = g.F.Followed.content in
    let marks = c.args.first.marks.items in
    let Kept : List Bool → Type 0 = λ marks. (texts : List (List ℕ)) × HasKept known marks texts × IsDraftOf g.D.Device.seen g.D.Device.may_leave g.D.Device.is_true texts c.kept_lines.new.draft in
    let kept = subst Kept c.deref.ensures.value c.in_ok-kept_lines.ensures.kept in
    begun g.D.Device.seen g.D.Device.may_leave g.D.Device.is_true from bytes known (content c.args.followed.now) (content c.read_on.new.followed) marks c.args.first.reached c.in_ok-reached.reached kept.0
    c.kept_lines.new.draft c.read_on.new.draft first again kept.1 kept.2 since c.in_ok-reached.ensures.grows c.in_ok-reached.ensures.read

pub returns-in_err-kept_lines-clause-fault : goal.returns-in_err-kept_lines-clause-fault
returns-in_err-kept_lines-clause-fault g c =
    let known = g.R.Read.remaining c.args.reader in
    let Fault : List Bool → Type 0 = λ marks. IsWriteFault known (length marks) c.in_err-kept_lines.field-0.0 in
    passed_on _ _ _ c.from_residual-in_err-kept_lines.ensures.1 (inl (subst Fault c.deref.ensures.value c.in_err-kept_lines.ensures.fault))

pub returns-in_err-reached-clause-fault : goal.returns-in_err-reached-clause-fault
returns-in_err-reached-clause-fault g c =
    let content = g.F.Followed.content in
    passed_on _ _ _ c.from_residual-in_err-reached.ensures.1
    (inr (λ from bytes first again since.
    begin_fault from bytes (content c.args.followed.now) (content c.read_on.new.followed) c.args.first.marks.items c.args.first.reached c.in_err-reached.field-0.0 first since
    c.in_err-reached.ensures.grows c.in_err-reached.ensures.fault))

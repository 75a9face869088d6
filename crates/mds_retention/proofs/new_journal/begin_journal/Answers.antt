use Rattle.std.proofs.Common.{inl, inr}
use Rattle.mds_retention.proofs.NewJournals.{marks_fault, write_fault}
use Rattle.mds_retention.proofs.Telling.{passed_on}
use Rattle.mds_retention.proofs.new_journal.begin_journal.Goals as goal

pub returns-in-Ok-clause-begun : goal.returns-in-Ok-clause-begun
returns-in-Ok-clause-begun g c = λ first readings since.
    let made = c.in_ok-first.ensures.marks first readings.first readings.second readings.third in
    c.in-Ok.ensures.begun c.args.from first made readings.fourth since

pub returns-in_err-first-clause-fault : goal.returns-in_err-first-clause-fault
returns-in_err-first-clause-fault g c =
    passed_on _ _ _ c.from_residual-in_err-first.ensures.1 (inl (marks_fault g.R.Read.remaining c.args.old c.in_err-first.field-0.0 c.in_err-first.ensures.fault))

pub returns-in-Err-clause-fault : goal.returns-in-Err-clause-fault
returns-in-Err-clause-fault g c =
    let count = c.in_ok-first.ensures.count in
    elim c.in-Err.ensures.fault [
      | inl why ↦ inl (write_fault g.R.Read.remaining c.args.old count.0 _ c.in-Err.error count.1 count.2 why)
      | inr why ↦ inr (λ first readings since.
          let made = c.in_ok-first.ensures.marks first readings.first readings.second readings.third in
          why c.args.from first made readings.fourth since)
    ]

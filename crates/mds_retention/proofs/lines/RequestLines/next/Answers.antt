use Rattle.std.proofs.Common.{◌≡◌, ◌∙◌, ℕ, List, true, ap, sym, subst, rules}
use Rattle.mds_entries.specs.Entry.{IsFaultOfLine}
use Rattle.mds_retention.specs.declared.error.LinesError.{LinesError}
use Rattle.mds_retention.specs.Telling.{IsJournalFault, entry_error}
use Rattle.mds_retention.specs.Texts.{number_of, text_of}
use Rattle.mds_retention.proofs.Reading.{entry_stops}
use Rattle.mds_retention.proofs.Telling.{journal_fault, passed_on}
use Rattle.mds_retention.proofs.lines.RequestLines.next.Goals as goal

pub returns-in_err-next-clause-fault : goal.returns-in_err-next-clause-fault
returns-in_err-next-clause-fault g c =
    passed_on _ _ _ c.from_residual.ensures.1
    (λ known history told. journal_fault known told.0 history c.in_err-next.field-0.0 told.2 (c.in_err-next.ensures.fault known told.0 told.1))

pub returns-in-Ok-clause-next : goal.returns-in-Ok-clause-next
returns-in-Ok-clause-next g c =
    let more : c.in_ok-next.field-0 ≡ true = search rules in
    c.in_ok-next.ensures.next more

-- the text tells none
pub returns-in-Err-clause-fault : goal.returns-in-Err-clause-fault
returns-in-Err-clause-fault g c = λ known history told.
    let now = c.next.new.self in
    let more : c.in_ok-next.field-0 ≡ true = search rules in
    let next = (c.in_ok-next.ensures.next more known told.0 told.1).1 in
    let is = c.entry_fault.ensures ∙ ap (λ n. entry_error n c.in-Err.fault) c.number.ensures in
    let why = subst (λ (w : List ℕ). IsFaultOfLine w c.in-Err.fault) c.text.ensures c.in-Err.ensures.fault in
    subst (λ (w : LinesError). IsJournalFault known w) (sym is) (entry_stops known told.0 history (number_of now) (text_of now) c.in-Err.fault told.2 next why)

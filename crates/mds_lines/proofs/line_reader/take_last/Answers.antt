use Rattle.mds_lines.specs.Stream.{HasLineFault}
use Rattle.mds_lines.proofs.ErrorLemmas.{passed_on, no_success}
use Rattle.mds_lines.proofs.FeedLemmas.{faulty_last}
use Rattle.mds_lines.proofs.line_reader.take_last.Goals as goal

pub returns-in_err-take_last-clause-taken : goal.returns-in_err-take_last-clause-taken
returns-in_err-take_last-clause-taken g c = λ items read.
    let next = c.in_err-take_last.ensures.taken items read in
    (next.0, next.1, no_success _ _ _ c.from_residual.ensures.1)

pub returns-in_err-take_last-clause-fault : goal.returns-in_err-take_last-clause-fault
returns-in_err-take_last-clause-fault g c =
    let fault = c.in_err-take_last.field-0.0 in
    passed_on _ _ (HasLineFault c.args.bytes.now) c.from_residual.ensures.1 (faulty_last c.args.bytes.now fault c.requires.short c.in_err-take_last.ensures.fault)

pub returns-clause-taken : goal.returns-clause-taken
returns-clause-taken g c = λ items read.
    let next = c.in_ok-take_last.ensures.taken items read in
    let are = next.2 in
    (next.0, next.1, (are.0, are.1, are.2.begins, are.2.unended, c.requires.short, are.3))

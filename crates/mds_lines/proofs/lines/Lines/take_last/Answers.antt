use Rattle.std.proofs.Common.{◌∷◌, ◌++◌, [], subst}
use Rattle.mds_lines.specs.Stream.{HoldItems}
use Rattle.mds_lines.specs.LineReading.{IsFaultOfLine, IsFaultyAtEnd}
use Rattle.mds_lines.proofs.ErrorLemmas.{passed_on, no_success}
use Rattle.mds_lines.proofs.LineLemmas.{last_line, faulty_at_end}
use Rattle.mds_lines.proofs.lines.Lines.take_last.Goals as goal

pub returns-in_err-take-clause-taken : goal.returns-in_err-take-clause-taken
returns-in_err-take-clause-taken g c = λ items read.
    let next = c.in_err-take.ensures.taken read.0 items read.3 read.4 in
    (next.0, next.1, no_success _ _ _ c.from_residual.ensures.1)

pub returns-in_err-take-clause-fault : goal.returns-in_err-take-clause-fault
returns-in_err-take-clause-fault g c =
    let bytes = c.args.bytes.now in
    let old = c.args.self.now in
    let items = c.requires.read.0 in
    let read = c.requires.read.1 in
    let fault = c.in_err-take.field-0.0 in
    let wrong = subst (λ line. IsFaultOfLine old.count line old.taken fault) (last_line bytes old.ended old.count read.0 read.1 read.2) c.in_err-take.ensures.fault in
    passed_on _ _ (IsFaultyAtEnd bytes) c.from_residual.ensures.1 (faulty_at_end bytes old.ended old.count read.0 read.1 old.taken items fault read.2 read.3 read.4 wrong)

pub returns-clause-taken : goal.returns-clause-taken
returns-clause-taken g c = λ items read.
    let old = c.args.self.now in
    let line = last_line c.args.bytes.now old.ended old.count read.0 read.1 read.2 in
    let next = c.in_ok-take.ensures.taken read.0 items read.3 read.4 in
    (next.0, next.1, (read.0, read.1, read.2, subst (λ line. HoldItems (read.0 ++ line ∷ []) next.0) line next.2.0, next.2.1))

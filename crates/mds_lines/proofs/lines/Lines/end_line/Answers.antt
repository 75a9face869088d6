use Rattle.std.proofs.Common.{◌+◌, ◌∷◌, ◌++◌, [], length, refl, ap, arith}
use Rattle.mds_lines.specs.Stream.{IsFaultyWith}
use Rattle.mds_lines.proofs.ErrorLemmas.{passed_on, no_success}
use Rattle.mds_lines.proofs.LineLemmas.{read_feed, count_within}
use Rattle.mds_lines.proofs.FeedLemmas.{faulty_with_feed}
use Rattle.mds_lines.proofs.lines.Lines.end_line.Goals as goal

pub returns-in_err-take_last-clause-taken : goal.returns-in_err-take_last-clause-taken
returns-in_err-take_last-clause-taken g c = λ items read.
    let next = c.in_err-take_last.ensures.taken items read in
    (next.0, next.1, no_success _ _ _ c.from_residual.ensures.1)

pub returns-in_err-take_last-clause-fault : goal.returns-in_err-take_last-clause-fault
returns-in_err-take_last-clause-fault g c =
    let bytes = c.args.bytes.now in
    let fault = c.in_err-take_last.field-0.0 in
    let faulty = faulty_with_feed bytes fault c.requires.short c.in_err-take_last.ensures.fault in
    passed_on _ _ (IsFaultyWith (bytes ++ 10 ∷ [])) c.from_residual.ensures.1 faulty

pub overflow_add-self-2 : goal.overflow_add-self-2
overflow_add-self-2 g c =
    let old = c.args.self.now in
    let read = c.requires.read.1 in
    omega (arith, c.requires.short, c.take_last.ensures.count, count_within c.args.bytes.now old.ended old.count read.0 read.1 read.2)

pub returns-clause-taken : goal.returns-clause-taken
returns-clause-taken g c = λ items read.
    let bytes = c.args.bytes.now in
    let old = c.args.self.now in
    let new = c.take_last.new.self in
    let next = c.in_ok-take_last.ensures.taken items read in
    (next.0, next.1, read_feed bytes old.ended old.count new.taken next.0 (length bytes + 1) (new.count + 1) refl (ap (λ n. n + 1) c.take_last.ensures.count) next.2)

use Rattle.std.proofs.Common.{◌+◌, sym, subst, arith}
use Rattle.mds_lines.specs.Stream.{IsFaultyWith}
use Rattle.mds_lines.specs.LineReading.{AreRead}
use Rattle.mds_lines.proofs.ErrorLemmas.{passed_on, no_success}
use Rattle.mds_lines.proofs.FeedLemmas.{faulty_front}
use Rattle.mds_lines.proofs.FeedSearch.{read_up_to, read_whole, with_feed, found_within}
use Rattle.mds_lines.proofs.lines.Lines.read.Goals as goal

pub end_line-requires-clause-read : goal.end_line-requires-clause-read
end_line-requires-clause-read g c =
    let now = c.loop-at.invariant.read c.requires.read.0 c.requires.read.1 in
    let lines = c.loop-at.self in
    (now.0, read_up_to c.args.bytes.now c.loop-at.next lines.ended lines.count lines.taken now.0 c.in-Some.at c.in-Some.ensures.0.before now.2)

pub returns-in_err-end_line-clause-taken : goal.returns-in_err-end_line-clause-taken
returns-in_err-end_line-clause-taken g c = λ items read.
    let lines = c.loop-at.self in
    let now = c.loop-at.invariant.read items read in
    let next = c.in_err-end_line.ensures.taken now.0 (read_up_to c.args.bytes.now c.loop-at.next lines.ended lines.count lines.taken now.0 c.in-Some.at c.in-Some.ensures.0.before now.2) in
    (next.0, λ before took. next.1 before (now.1 before took), no_success _ _ _ c.from_residual.ensures.1)

pub returns-in_err-end_line-clause-fault : goal.returns-in_err-end_line-clause-fault
returns-in_err-end_line-clause-fault g c =
    let bytes = c.args.bytes.now in
    let at = c.in-Some.at in
    let fault = c.in_err-end_line.field-0.0 in
    let front = with_feed bytes c.loop-at.next at (found_within bytes c.loop-at.next at c.loop-at.invariant.within c.in-Some.ensures.0.high) c.in-Some.ensures.1 in
    let faulty = subst (λ front. IsFaultyWith front fault) (sym front) c.in_err-end_line.ensures.fault in
    passed_on _ _ (IsFaultyWith bytes) c.from_residual.ensures.1 (faulty_front (c.loop-at.next + (at + 1)) bytes fault faulty)

pub loop-at-preserved : goal.loop-at-preserved
loop-at-preserved g c =
    let bytes = c.args.bytes.now in
    let from = c.loop-at.next in
    let at = c.in-Some.at in
    let within = found_within bytes from at c.loop-at.invariant.within c.in-Some.ensures.0.high in
    record {
      within = omega (arith, within);
      read = λ items read.
          let lines = c.loop-at.self in
          let new = c.end_line.new.self in
          let now = c.loop-at.invariant.read items read in
          let next = c.in_ok-end_line.ensures.taken now.0 (read_up_to bytes from lines.ended lines.count lines.taken now.0 at c.in-Some.ensures.0.before now.2) in
          let front = sym (with_feed bytes from at within c.in-Some.ensures.1) in
          (next.0, λ before took. next.1 before (now.1 before took), subst (λ bytes. AreRead bytes new.ended new.count new.taken next.0) front next.2);
    }

pub returns-clause-taken : goal.returns-clause-taken
returns-clause-taken g c = λ items read.
    let lines = c.loop-at.self in
    let now = c.loop-at.invariant.read items read in
    (now.0, now.1, read_whole c.args.bytes.now c.loop-at.next lines.ended lines.count lines.taken now.0 c.loop-at.invariant.within c.in_default.ensures now.2)

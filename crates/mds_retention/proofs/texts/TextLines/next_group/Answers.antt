use Rattle.std.proofs.Common.{◌≡◌, ◌∙◌, true, false, arith, rules}
use Rattle.mds_retention.proofs.Reading.{end_stops, none_to_come, reads_all}
use Rattle.mds_retention.proofs.Telling.{passed_on}
use Rattle.mds_retention.proofs.texts.TextLines.next_group.Goals as goal

pub lines-preserved : goal.lines-preserved
lines-preserved g c =
    let more : c.in_ok-take_line.field-0 ≡ true = search rules in
    record {
      reading = c.take_line.ensures.reading;
      done = omega (arith, c.take_line.ensures.reading.within, c.if-self-len.false);
      read = λ known texts read. c.in_ok-take_line.ensures.read more known texts (c.lines.invariant.read known texts read);
      count = c.take_line.ensures.count ∙ c.lines.invariant.count;
    }

pub lines-smaller : goal.lines-smaller
lines-smaller g c =
    let more : c.in_ok-take_line.field-0 ≡ true = search rules in
    omega (arith, c.in_ok-take_line.ensures.further more, c.in_ok-take_line.ensures.few more)

pub returns-then-self-len-clause-read : goal.returns-then-self-len-clause-read
returns-then-self-len-clause-read g c = λ _ known texts read.
    let more : c.in_ok-take_line.field-0 ≡ true = search rules in
    c.in_ok-take_line.ensures.read more known texts (c.lines.invariant.read known texts read)

pub returns-in_err-take_line-clause-fault : goal.returns-in_err-take_line-clause-fault
returns-in_err-take_line-clause-fault g c =
    passed_on _ _ _ c.from_residual.ensures.1 (λ known texts read. c.in_err-take_line.ensures.fault known texts (c.lines.invariant.read known texts read))

pub returns-in-Ok-clause-all : goal.returns-in-Ok-clause-all
returns-in-Ok-clause-all g c = λ _ known texts read.
    let remaining = g.R.Read.remaining in
    let no : c.in_ok-take_line.field-0 ≡ false = search rules in
    let end = c.in_ok-take_line.ensures.end no known texts (c.lines.invariant.read known texts read) in
    let none = none_to_come remaining known c.take_line.new.self (c.in_ok-take_line.ensures.done no) in
    reads_all remaining known c.take_line.new.self texts end.0 none c.in-Ok.form end.1 c.in-Ok.ensures.whole

pub returns-in-Err-clause-fault : goal.returns-in-Err-clause-fault
returns-in-Err-clause-fault g c = λ known texts read.
    let remaining = g.R.Read.remaining in
    let no : c.in_ok-take_line.field-0 ≡ false = search rules in
    let end = c.in_ok-take_line.ensures.end no known texts (c.lines.invariant.read known texts read) in
    let none = none_to_come remaining known c.take_line.new.self (c.in_ok-take_line.ensures.done no) in
    end_stops remaining known c.take_line.new.self texts end.0 none c.in-Err.fault end.1 c.in-Err.ensures.fault

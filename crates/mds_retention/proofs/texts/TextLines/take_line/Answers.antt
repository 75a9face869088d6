use Rattle.std.proofs.Common.{◌≡◌, ◌≤◌, Option, true, false, length, refl, subst, rules}
use Rattle.mds_groups.specs.Stream.{Refuses, Takes}
use Rattle.mds_groups.specs.declared.stream.WholeGroup.{WholeGroup}
use Rattle.mds_journal.specs.Stream.{unread_of}
use Rattle.mds_retention.specs.Telling.{IsShort}
use Rattle.mds_retention.proofs.Reading.{at_next, ended, group_taken, line_stops, line_taken, none_to_come}
use Rattle.mds_journal.proofs.StreamLemmas.{counts_first}
use Rattle.mds_retention.proofs.Telling.{passed_on}
use Rattle.mds_retention.proofs.texts.TextLines.take_line.Goals as goal

pub returns-in-Ok-false-clause-end : goal.returns-in-Ok-false-clause-end
returns-in-Ok-false-clause-end g c = λ _ known texts read.
    let no : c.in-Ok-false.field-0 ≡ false = search rules in
    let done = c.in-Ok-false.ensures.done no in
    ended g.R.Read.remaining known c.args.self.now _ texts read done.0 done.1 refl refl refl refl

pub returns-in_err-group-clause-fault : goal.returns-in_err-group-clause-fault
returns-in_err-group-clause-fault g c =
    let remaining = g.R.Read.remaining in
    let old = c.args.self.now in
    let line = c.next_line.new.line.items in
    let more : c.in-Ok-true.field-0 ≡ true = search rules in
    let short : IsShort line = subst (λ n. length line ≤ n) c.requires.reading.limit (c.in-Ok-true.ensures.within more) in
    let refuses : Refuses old.groups old.place.lines line c.in_err-group.field-0.0 = rw c.deref-2.ensures.value at c.in_err-group.ensures.fault in
    passed_on _ _ _ c.from_residual-in_err-group.ensures.1 (λ known texts read.
    line_stops remaining known old texts read (none_to_come remaining known old c.requires.done) line (unread_of remaining c.next_line.new.self) c.in_err-group.field-0.0
    (counts_first _ _ line (c.in-Ok-true.ensures.line more)) short refuses)

pub returns-in-Some-clause-read : goal.returns-in-Some-clause-read
returns-in-Some-clause-read g c = λ _ known texts read.
    let remaining = g.R.Read.remaining in
    let old = c.args.self.now in
    let line = c.next_line.new.line.items in
    let more : c.in-Ok-true.field-0 ≡ true = search rules in
    let short : IsShort line = subst (λ n. length line ≤ n) c.requires.reading.limit (c.in-Ok-true.ensures.within more) in
    let Taken : Option WholeGroup → Type 0 = λ next. Takes old.groups c.take.new.self old.place.lines line next in
    let takes = subst Taken c.in-Some.is (rw c.deref-2.ensures.value at c.in_ok-group.ensures.taken) in
    group_taken remaining known old _ texts read (none_to_come remaining known old c.requires.done) line (counts_first _ _ line (c.in-Ok-true.ensures.line more))
    (at_next old.place _ read.lines line (rw c.deref.ensures.value at c.in_ok-self.ensures.bytes) c.in_ok-self.ensures.lines short read.at) c.in-Some.group takes refl refl

pub returns-in-None-clause-read : goal.returns-in-None-clause-read
returns-in-None-clause-read g c = λ _ known texts read.
    let remaining = g.R.Read.remaining in
    let old = c.args.self.now in
    let line = c.next_line.new.line.items in
    let more : c.in-Ok-true.field-0 ≡ true = search rules in
    let short : IsShort line = subst (λ n. length line ≤ n) c.requires.reading.limit (c.in-Ok-true.ensures.within more) in
    let Taken : Option WholeGroup → Type 0 = λ next. Takes old.groups c.take.new.self old.place.lines line next in
    let takes = subst Taken c.in-None.is (rw c.deref-2.ensures.value at c.in_ok-group.ensures.taken) in
    let none = none_to_come remaining known old c.requires.done in
    line_taken remaining known old _ texts read none line (counts_first _ _ line (c.in-Ok-true.ensures.line more))
    (at_next old.place _ read.lines line (rw c.deref.ensures.value at c.in_ok-self.ensures.bytes) c.in_ok-self.ensures.lines short read.at) takes none

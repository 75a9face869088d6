use Rattle.std.proofs.Common.{◌≡◌, ◌-◌, ◌≤◌, Some, None, length, true, false, refl, subst, arith, rules}
use Rattle.mds_groups.specs.Stream.{Refuses, Takes}
use Rattle.mds_journal.specs.Stream.{lines_given, unread_of}
use Rattle.mds_commands.specs.Taking.{IsShort}
use Rattle.mds_commands.proofs.ErrorLemmas.{passed_on}
use Rattle.mds_commands.proofs.TakingLemmas.{entry_fault, group_fault, taken_all, taken_group, taken_line}
use Rattle.mds_commands.proofs.vehicles.taking.Taking.take_line.Goals as goal

pub returns-then-not-branch-clause-all : goal.returns-then-not-branch-clause-all
returns-then-not-branch-clause-all g c = λ _ tables known taken.
    let no : c.in_ok-next_line.field-0 ≡ false = search rules in
    let done = c.in_ok-next_line.ensures.done no in
    let number = rw no at c.in_ok-next_line.ensures.number in
    taken_all g.R.Read.remaining tables known c.args.self.now _ taken done.0 done.1 (omega (arith, number)) refl refl refl

pub returns-in_err-group-clause-fault : goal.returns-in_err-group-clause-fault
returns-in_err-group-clause-fault g c =
    let remaining = g.R.Read.remaining in
    let line = c.next_line.new.line.items in
    let more : c.in_ok-next_line.field-0 ≡ true = search rules in
    let given = rw more at c.in_ok-next_line.ensures.number in
    let number : c.number-number.result - 1 ≡ lines_given c.args.self.now.lines = omega (arith, given, c.number-number.ensures) in
    let short : IsShort line = subst (λ n. length line ≤ n) c.requires.limit (c.in_ok-next_line.ensures.within more) in
    let refuses = subst (λ n. Refuses c.args.self.now.groups n line c.in_err-group.field-0.0) number (rw c.deref.ensures.value at c.in_err-group.ensures.fault) in
    passed_on _ _ _ c.from_residual-in_err-group.ensures.1 (λ tables known taken.
    group_fault remaining tables known c.args.self.now (unread_of remaining c.next_line.new.self) line c.in_err-group.field-0.0 taken (c.in_ok-next_line.ensures.line more) short refuses)

pub returns-in_err-take_group-clause-fault : goal.returns-in_err-take_group-clause-fault
returns-in_err-take_group-clause-fault g c =
    let remaining = g.R.Read.remaining in
    let line = c.next_line.new.line.items in
    let more : c.in_ok-next_line.field-0 ≡ true = search rules in
    let given = rw more at c.in_ok-next_line.ensures.number in
    let number : c.number-number.result - 1 ≡ lines_given c.args.self.now.lines = omega (arith, given, c.number-number.ensures) in
    let short : IsShort line = subst (λ n. length line ≤ n) c.requires.limit (c.in_ok-next_line.ensures.within more) in
    let takes = subst (λ n. Takes c.args.self.now.groups c.take.new.self n line (Some c.in-Some.group)) number (rw (c.deref.ensures.value, c.in-Some.is) at c.in_ok-group.ensures.taken) in
    passed_on _ _ _ c.from_residual-in_err-take_group.ensures.1 (λ tables known taken.
    entry_fault remaining tables known c.args.self.now (unread_of remaining c.next_line.new.self) line c.in-Some.group c.in_err-take_group.field-0.0 taken
    (c.in_ok-next_line.ensures.line more) short (takes taken.lines taken.groups taken.stream taken.number).1 c.in_err-take_group.ensures.fault)

pub returns-in_ok-take_group-clause-taken : goal.returns-in_ok-take_group-clause-taken
returns-in_ok-take_group-clause-taken g c = λ _ tables known taken.
    let line = c.next_line.new.line.items in
    let more : c.in_ok-next_line.field-0 ≡ true = search rules in
    let given = rw more at c.in_ok-next_line.ensures.number in
    let number : c.number-number.result - 1 ≡ lines_given c.args.self.now.lines = omega (arith, given, c.number-number.ensures) in
    let short : IsShort line = subst (λ n. length line ≤ n) c.requires.limit (c.in_ok-next_line.ensures.within more) in
    let takes = subst (λ n. Takes c.args.self.now.groups c.take.new.self n line (Some c.in-Some.group)) number (rw (c.deref.ensures.value, c.in-Some.is) at c.in_ok-group.ensures.taken) in
    taken_group g.R.Read.remaining tables known c.args.self.now _ line c.in-Some.group taken (c.in_ok-next_line.ensures.line more) short given takes refl c.in_ok-take_group.ensures.taken

pub returns-in_default-clause-taken : goal.returns-in_default-clause-taken
returns-in_default-clause-taken g c = λ _ tables known taken.
    let line = c.next_line.new.line.items in
    let more : c.in_ok-next_line.field-0 ≡ true = search rules in
    let given = rw more at c.in_ok-next_line.ensures.number in
    let number : c.number-number.result - 1 ≡ lines_given c.args.self.now.lines = omega (arith, given, c.number-number.ensures) in
    let short : IsShort line = subst (λ n. length line ≤ n) c.requires.limit (c.in_ok-next_line.ensures.within more) in
    let takes = subst (λ n. Takes c.args.self.now.groups c.take.new.self n line None) number (rw (c.deref.ensures.value, c.in_default.is) at c.in_ok-group.ensures.taken) in
    taken_line g.R.Read.remaining tables known c.args.self.now _ line taken (c.in_ok-next_line.ensures.line more) short given takes refl refl

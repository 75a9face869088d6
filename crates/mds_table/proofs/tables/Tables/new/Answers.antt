use Rattle.std.proofs.Common.{◌≡◌, ◌<◌, ◌≤◌, length, get_or, arith, rules}
use Rattle.mds_table.specs.Tables.{Entry}
use Rattle.mds_table.specs.Timed.{max_tables}
use Rattle.mds_table.proofs.InTime.{late_fault, early_fault, next_in_time, next_last}
use Rattle.mds_table.proofs.tables.Tables.new.Goals as goal

pub returns-then-start-gt-MAX_TIME-clause-fault : goal.returns-then-start-gt-MAX_TIME-clause-fault
returns-then-start-gt-MAX_TIME-clause-fault c =
    let entries = c.args.entries.items in
    let entry : Entry = c.entry-item.result in
    let few : length entries ≤ max_tables = omega (arith, c.in_ok-check_count.ensures.few, c.len.ensures) in
    let within : c.loop-at.at < length entries = omega (arith, c.loop-at-test.true, c.deref-entry-items.ensures.len) in
    let is : entry ≡ get_or entries c.loop-at.at entry = cc in
    late_fault entries c.loop-at.at entry within is few c.loop-at.invariant.times c.if-start-gt-MAX_TIME.true

pub returns-in_err-check_start-clause-fault : goal.returns-in_err-check_start-clause-fault
returns-in_err-check_start-clause-fault c =
    let entries = c.args.entries.items in
    let entry : Entry = c.entry-item.result in
    let few : length entries ≤ max_tables = omega (arith, c.in_ok-check_count.ensures.few, c.len.ensures) in
    let within : c.loop-at.at < length entries = omega (arith, c.loop-at-test.true, c.deref-entry-items.ensures.len) in
    let is : entry ≡ get_or entries c.loop-at.at entry = cc in
    let wrong = early_fault entries c.loop-at.at entry within is c.loop-at.last c.in_err-check_start.field-0.0 few c.loop-at.invariant.times c.loop-at.invariant.last
    c.if-start-gt-MAX_TIME.false c.in_err-check_start.ensures in
    search (rules, wrong)

pub loop-at-preserved : goal.loop-at-preserved
loop-at-preserved c =
    let entries = c.args.entries.items in
    let entry : Entry = c.entry-item.result in
    let within : c.loop-at.at < length entries = omega (arith, c.loop-at-test.true, c.deref-entry-items.ensures.len) in
    let is : entry ≡ get_or entries c.loop-at.at entry = cc in record {
      times = next_in_time entries c.loop-at.at entry within is c.loop-at.last c.loop-at.invariant.times c.loop-at.invariant.last c.if-start-gt-MAX_TIME.false c.in_ok-check_start.ensures;
      last = next_last entries c.loop-at.at entry within is;
    }

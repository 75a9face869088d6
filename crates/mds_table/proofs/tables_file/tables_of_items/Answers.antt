use Rattle.std.proofs.Common.{◌≤◌, map, length, sym, arith, rules}
use Rattle.std.proofs.lemmas.List.{length-map}
use Rattle.serde_json.specs.View.{view}
use Rattle.mds_table.specs.Timed.{max_tables}
use Rattle.mds_table.proofs.Values.{taken_more, taken_all}
use Rattle.mds_table.proofs.TimedReading.{value_here}
use Rattle.mds_table.proofs.ItemsRead.{all_timed, bad_item, wrong_start, wrong_rows, next_times, next_items, next_end}
use Rattle.mds_table.proofs.tables_file.tables_of_items.Goals as goal

pub returns-in_default-clause-fault : goal.returns-in_default-clause-fault
returns-in_default-clause-fault c =
    let items = map view c.args.items.now in
    let value = c.index-items-at.result in
    let few : length items ≤ max_tables = omega (arith, length-map c.args.items.now view, c.requires.few) in
    let here = value_here c.args.items.now c.loop-at.at value c.loop-at-test.true c.index-items-at.is in
    bad_item items c.loop-at.at c.loop-at.entries.items (view value) few here c.loop-at.invariant.each c.loop-at.invariant.times (sym c.in_default.ensures.start)

pub returns-in_err-check_start-clause-fault : goal.returns-in_err-check_start-clause-fault
returns-in_err-check_start-clause-fault c =
    let items = map view c.args.items.now in
    let value = c.index-items-at.result in
    let few : length items ≤ max_tables = omega (arith, length-map c.args.items.now view, c.requires.few) in
    let here = value_here c.args.items.now c.loop-at.at value c.loop-at-test.true c.index-items-at.is in
    let wrong = wrong_start items c.loop-at.at c.loop-at.entries.items (view value) few here c.loop-at.invariant.each c.loop-at.invariant.times c.loop-at.last c.loop-at.invariant.last
    c.in-Some.start (sym c.in-Some.ensures.start) c.in_err-check_start.field-0.0 c.in_err-check_start.ensures in
    search (rules, wrong)

pub returns-in_err-table-clause-fault : goal.returns-in_err-table-clause-fault
returns-in_err-table-clause-fault c =
    let items = map view c.args.items.now in
    let value = c.index-items-at.result in
    let few : length items ≤ max_tables = omega (arith, length-map c.args.items.now view, c.requires.few) in
    let here = value_here c.args.items.now c.loop-at.at value c.loop-at-test.true c.index-items-at.is in
    let wrong = wrong_rows items c.loop-at.at c.loop-at.entries.items (view value) few here c.loop-at.invariant.each c.loop-at.invariant.times c.loop-at.last c.loop-at.invariant.last
    c.in-Some.start (sym c.in-Some.ensures.start) (map view c.in-Some.rows.now) c.in_err-table.field-0.0 c.in_ok-check_start.ensures c.in-Some.ensures.rows c.in_err-table.ensures.fault in
    search (rules, wrong)

pub loop-at-preserved : goal.loop-at-preserved
loop-at-preserved c =
    let items = map view c.args.items.now in
    let value = c.index-items-at.result in
    let few : length items ≤ max_tables = omega (arith, length-map c.args.items.now view, c.requires.few) in
    let here = value_here c.args.items.now c.loop-at.at value c.loop-at-test.true c.index-items-at.is in
    let more = taken_more c.args.items.now c.loop-at.at value c.loop-at-test.true c.index-items-at.is in
    let entries = c.loop-at.entries.items in
    rw c.in_ok-add.ensures (record {
      times = next_times items c.loop-at.at entries (view value) few here c.loop-at.invariant.each c.loop-at.invariant.times c.loop-at.last c.loop-at.invariant.last
          c.in-Some.start (sym c.in-Some.ensures.start) c.in_ok-table.table c.in_ok-check_start.ensures;
      each = next_items items c.loop-at.at entries (view value) few here c.loop-at.invariant.each c.loop-at.invariant.times c.loop-at.last c.loop-at.invariant.last
          c.in-Some.start (sym c.in-Some.ensures.start) (map view c.in-Some.rows.now) c.in_ok-table.table c.in-Some.ensures.rows c.in_ok-table.ensures.table more;
      last = next_end entries (c.in-Some.start, c.in_ok-table.table);
    })

pub of_entries-requires : goal.of_entries-requires
of_entries-requires c =
    let items = map view c.args.items.now in
    let some : 1 ≤ length items = omega (arith, length-map c.args.items.now view, c.requires.some) in
    let few : length items ≤ max_tables = omega (arith, length-map c.args.items.now view, c.requires.few) in
    all_timed items c.loop-at.at c.loop-at.entries.items c.loop-at.invariant.each (taken_all c.args.items.now c.loop-at.at c.loop-at-test.false) some few c.loop-at.invariant.times

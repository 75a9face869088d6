use Rattle.std.proofs.Common.{take, map, rules}
use Rattle.std.proofs.lemmas.List.{length-map}
use Rattle.std.proofs.lemmas.List.Elements.{All-push}
use Rattle.serde_json.specs.View.{view}
use Rattle.mds_table.specs.TableFile.{IsRowEntry}
use Rattle.mds_table.proofs.Values.{taken_more, value_at}
use Rattle.mds_table.proofs.Adding.{rows_more, some_row}
use Rattle.mds_table.proofs.Laid.{types_of, counts_few, counts_many}
use Rattle.mds_table.proofs.table_file.set_of_entries.Goals as goal

pub returns-then-set-gt-MAX_ROWS-clause-fault : goal.returns-then-set-gt-MAX_ROWS-clause-fault
returns-then-set-gt-MAX_ROWS-clause-fault c =
    let at = c.loop-at.at in
    let value = view c.index-entries-at.result in
    let entry = c.in-Some.entry in
    let rows = c.loop-at.invariant.0 in
    let good = c.loop-at.invariant.1 in
    let some = some_row value entry c.in-Some.ensures.form c.in-Some.ensures.rows in
    let next = c.in_ok-add.ensures rows some.0 c.loop-at.invariant.2 some.1 in
    let more = taken_more c.args.entries.now at c.index-entries-at.result c.loop-at-test.true c.index-entries-at.is in
    let exactly = rows_more (take at (map view c.args.entries.now)) value entry c.in-Some.ensures.rows good.exactly next.1.order next.2 in (
      at,
      record {
        before = (rows, map (λ m. m.kind) c.loop-at.set.moves.items, good);
        here = (
          value_at IsRowEntry c.args.entries.now at c.index-entries-at.result c.loop-at-test.true c.index-entries-at.is c.in-Some.ensures.form,
          next.0,
          rw more exactly,
          counts_many next.0 c.add.new.self.count next.1.count (search rules),
        );
      },
    )

pub returns-then-len-gt-MAX_TABLE_TYPES-clause-fault : goal.returns-then-len-gt-MAX_TABLE_TYPES-clause-fault
returns-then-len-gt-MAX_TABLE_TYPES-clause-fault c =
    let at = c.loop-at.at in
    let value = view c.index-entries-at.result in
    let entry = c.in-Some.entry in
    let rows = c.loop-at.invariant.0 in
    let good = c.loop-at.invariant.1 in
    let some = some_row value entry c.in-Some.ensures.form c.in-Some.ensures.rows in
    let next = c.in_ok-add.ensures rows some.0 c.loop-at.invariant.2 some.1 in
    let more = taken_more c.args.entries.now at c.index-entries-at.result c.loop-at-test.true c.index-entries-at.is in
    let exactly = rows_more (take at (map view c.args.entries.now)) value entry c.in-Some.ensures.rows good.exactly next.1.order next.2 in (
      at,
      record {
        before = (rows, map (λ m. m.kind) c.loop-at.set.moves.items, good);
        here = (
          value_at IsRowEntry c.args.entries.now at c.index-entries-at.result c.loop-at-test.true c.index-entries-at.is c.in-Some.ensures.form,
          next.0,
          rw more exactly,
          counts_few next.0 c.add.new.self.count next.1.count (search rules),
          map (λ m. m.kind) c.add.new.self.moves.items,
          types_of next.0 c.add.new.self next.1,
          rw length-map (search rules),
        );
      },
    )

pub loop-at-preserved : goal.loop-at-preserved
loop-at-preserved c =
    let at = c.loop-at.at in
    let value = view c.index-entries-at.result in
    let entry = c.in-Some.entry in
    let rows = c.loop-at.invariant.0 in
    let good = c.loop-at.invariant.1 in
    let some = some_row value entry c.in-Some.ensures.form c.in-Some.ensures.rows in
    let next = c.in_ok-add.ensures rows some.0 c.loop-at.invariant.2 some.1 in
    let more = taken_more c.args.entries.now at c.index-entries-at.result c.loop-at-test.true c.index-entries-at.is in
    rw more (
      next.0,
      record {
        forms = All-push IsRowEntry (take at (map view c.args.entries.now)) value good.forms c.in-Some.ensures.form;
        exactly = rows_more (take at (map view c.args.entries.now)) value entry c.in-Some.ensures.rows good.exactly next.1.order next.2;
        few_rows = counts_few next.0 c.add.new.self.count next.1.count (search rules);
        types = types_of next.0 c.add.new.self next.1;
        few_kinds = rw length-map (search rules);
      },
      next.1,
    )

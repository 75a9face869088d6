use Rattle.std.proofs.Common.{map, sym, ◌∙◌, ap}
use Rattle.serde_json.specs.View.{view}
use Rattle.mds_table.proofs.Values.{listed_array}
use Rattle.mds_table.proofs.entry.values_in.Goals as goal

pub returns-in-Some : goal.returns-in-Some
returns-in-Some c =
    ap (map view) c.as_slice.ensures.value ∙ sym (listed_array (view c.args.value.now) c.in-Some.values.now.items c.in-Some.ensures)

use Rattle.std.proofs.Common.{Some, map, sym, ap}
use Rattle.serde_json.specs.View.{view}
use Rattle.mds_table.proofs.Values.{items_in-items_of}
use Rattle.mds_table.proofs.tables_file.items_of.Goals as goal

pub returns : goal.returns
returns c =
    rw (c.as_slice.ensures.value, ← c.in_ok-get.ensures, ← c.in_ok-as_array.ensures) (ap Some (sym (items_in-items_of (map view c.in_ok-as_array.field-0.now.items))))

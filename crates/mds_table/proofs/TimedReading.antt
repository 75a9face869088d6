-- What the reader of a file of tables knows of its parts.
use Rattle.std.proofs.Common.{◌≡◌, ℕ, ◌<◌, List, [], ◌∷◌, length, get_or, map, slice_get, Option, Some, option_map, refl, ◌∙◌, ap, inl, inr, arith}
use Rattle.std.proofs.lemmas.Option.{slice_get-map, slice_get_read}
use Rattle.std.proofs.lemmas.List.Elements.{All-nil}
use Rattle.serde_json.specs.Data.{Data}
use Rattle.serde_json.specs.View.{view}
use Rattle.serde_json.specs.declared.value.Value.{Value}
use Rattle.mds_table.specs.declared.row.Row.{Row}
use Rattle.mds_table.specs.declared.table_file.TableFault.{TableFault}
use Rattle.mds_table.specs.declared.table_file.TableFault.TheVariants as table
use Rattle.mds_table.specs.Entry.{HasFaultIn}
use Rattle.mds_table.specs.Timed.{AreInTime, AreTimed}
use Rattle.mds_table.specs.TimedFile.{of_table}
use Rattle.mds_table.specs.TimedRead.{IsTableFault}
use Rattle.mds_table.proofs.InTime.{in_time_push}

-- no table is in order of time
pub none_in_time : AreInTime []
none_in_time = record { first = tt; rising = refl; in_range = All-nil _ }

-- one table from 0 on is all that is needed
pub one_timed : (rows : List Row) → AreTimed ((0, rows) ∷ [])
one_timed rows = record { some = omega arith; few = omega arith; times = in_time_push [] (0, rows) none_in_time refl (omega arith) }

-- the value at a place
pub value_here : (values : List Value) (i : ℕ) (value : Value) → i < length values → value ≡ get_or values i value → slice_get (map view values) i ≡ Some (view value)
value_here values i value within is =
    slice_get-map view values i ∙ ap (option_map view) (slice_get_read values (length values) i value refl within is)

-- the fault of the rows of a table
pub table_fault : (at : Option ℕ) (rows : List Data) (fault : TableFault) → HasFaultIn rows fault → IsTableFault at rows (of_table at fault)
table_fault at rows table.Memory is = inl refl
table_fault at rows table.TooLong is = absurd is
table_fault at rows table.NotJson is = absurd is
table_fault at rows table.NotRows is = absurd is
table_fault at rows (table.BadRow n) is = inr (table.BadRow n, refl, is)
table_fault at rows table.TooManyRows is = inr (table.TooManyRows, refl, is)
table_fault at rows table.TooManyTypes is = inr (table.TooManyTypes, refl, is)
table_fault at rows table.Empty is = inr (table.Empty, refl, is)

-- Tables that are listed one by one.
use Rattle.std.proofs.Common.{◌≡◌, ℕ, ◌+◌, ◌<◌, ◌≢◌, List, length, [], ◌∷◌, ◌++◌, Vec, take, Some, None, refl, add-one}
use Rattle.std.specs.List.{slice_get}
use Rattle.std.proofs.Math.Seq.{take-suc}
use Rattle.std.proofs.lemmas.List.{map-append}
use Rattle.std.proofs.lemmas.Option.{slice_get-get_or, slice_get_within, get_or_from_slice_get}
use Rattle.mds_table.specs.declared.row.Row.{Row}
use Rattle.mds_table.specs.Tables.{Entry, Tables}
use Rattle.mds_http.specs.Found.{tables_of}

one_more : (tables : Tables) (at : ℕ) (table : Entry) → slice_get tables at ≡ Some table → take (at + 1) tables ≡ take at tables ++ table ∷ []
one_more tables at table is =
    rw (add-one, take-suc tables at table (slice_get_within tables at table is), get_or_from_slice_get tables at table table is) refl

-- behind the tables so far the next one is listed
pub listed_more : {A : Type 0} (listed : List (ℕ × Vec Row A)) (tables : Tables) (at start : ℕ) (rows : Vec Row A)
    → tables_of listed ≡ take at tables → slice_get tables at ≡ Some (start, rows.items)
    → tables_of (listed ++ (start, rows) ∷ []) ≡ take (at + 1) tables
listed_more listed tables at start rows so_far next =
    rw (one_more tables at (start, rows.items) next, ← so_far) (map-append (λ table. (table.0, table.1.items)) listed ((start, rows) ∷ []))

-- no place is empty before the end
pub is_there : (tables : Tables) (at : ℕ) → at < length tables → slice_get tables at ≢ None
is_there tables at within none = let found = slice_get-get_or tables at (0, []) within in cc

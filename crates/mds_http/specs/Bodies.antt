-- The bodies of answers: one text of JSON each.
use Rattle.std.specs.Prelude.{ℕ, List, [], ◌∷◌, codes, decimal}
use Rattle.mds_table.specs.Tables.{Tables, rows_of}
use Rattle.mds_core.specs.Reported.{Reported}
use Rattle.mds_http.specs.declared.response.failure.Failure.{Failure}
use Rattle.mds_batch.specs.Texts.{◌+++◌, with_commas, event_text, row_text, table_text}
use Rattle.mds_http.specs.Json.{failure_text}

-- the body of a fault of this word
abbrev pub fault_body : List ℕ → List ℕ
fault_body word = codes "{\"error\":\"" +++ word +++ codes "\"}"

-- the body where the item of an index found no memory
abbrev pub memory_body : ℕ → List ℕ
memory_body index = codes "{\"error\":\"out_of_memory\",\"index\":" +++ decimal index +++ codes "}"

-- the body of a POST: its failures, the number of items accepted, and the number of items
abbrev pub batch_body : List Failure → ℕ → ℕ → List ℕ
batch_body failures success total =
    codes "{\"failures\":[" +++ with_commas failure_text failures +++ codes "],\"success\":"
    +++ decimal success +++ codes ",\"total\":" +++ decimal total +++ codes "}"

-- the body of a vehicle's events, in the order in which they were accepted
abbrev pub events_body : List Reported → List ℕ
events_body events = codes "{\"events\":[" +++ with_commas event_text events +++ codes "]}"

-- the body of tables, which is a file of them too: one table by its rows alone, more with their
-- starting times
abbrev pub tables_body : Tables → List ℕ
tables_body (table ∷ []) =
    codes "{\"rows\":[" +++ with_commas row_text (rows_of table) +++ codes "]}"
tables_body tables = codes "{\"tables\":[" +++ with_commas table_text tables +++ codes "]}"

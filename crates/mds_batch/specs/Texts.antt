-- Compact texts of JSON (RFC 8259). The members of an object stand in ascending order of their
-- names.
use Rattle.std.specs.Prelude.{ℕ, List, [], ◌∷◌, ◌++◌, codes, decimal, Option, Some, None}
use Rattle.std.specs.List.{flat_map}
use Rattle.std.specs.Fmt.{signed_decimal}
use Rattle.uuid.specs.Text.{hyphenated_text, lower}
use Rattle.mds_table.specs.State.{name_of}
use Rattle.mds_table.specs.declared.row.Row.{Row}
use Rattle.mds_table.specs.Tables.{Entry, start_of, rows_of}
use Rattle.mds_core.specs.declared.key.Key.{Key}
use Rattle.mds_core.specs.declared.position.Position.{Position}
use Rattle.mds_core.specs.Reported.{Reported}

infixr 5 ◌+++◌
-- one text behind the other, grouped to the right, as `write!` lays its pieces one behind the other
abbrev pub ◌+++◌ : List ℕ → List ℕ → List ℕ
a +++ b = a ++ b

-- a list of such texts, with a comma between
abbrev pub with_commas : {A : Type 0} → (A → List ℕ) → List A → List ℕ
with_commas text [] = []
with_commas text (first ∷ rest) = text first ++ flat_map (λ item. codes "," ++ text item) rest

-- a text of which no character needs to be escaped
abbrev pub quoted_text : List ℕ → List ℕ
quoted_text text = codes "\"" +++ text +++ codes "\""

-- a position, or null where there is none
abbrev pub position_text : Option Position → List ℕ
position_text None = codes "null"
position_text (Some position) =
    codes "{\"lat\":" +++ signed_decimal position.lat
    +++ codes ",\"lng\":" +++ signed_decimal position.lng +++ codes "}"

-- a registration of a vehicle
abbrev pub registration_text : Key → List ℕ
registration_text key =
    codes "{\"device_id\":\"" +++ hyphenated_text lower key.device
    +++ codes "\",\"provider_id\":\"" +++ hyphenated_text lower key.provider +++ codes "\"}"

-- an event
abbrev pub event_text : Reported → List ℕ
event_text event =
    (codes "{\"device_id\":\"" +++ hyphenated_text lower event.key.device
    +++ codes "\",\"event_id\":\"" +++ hyphenated_text lower event.id
    +++ codes "\",\"event_types\":[" +++ with_commas quoted_text event.types +++ codes "]")
    ++ (codes ",\"location_e7\":" +++ position_text event.position
    +++ codes ",\"provider_id\":\"" +++ hyphenated_text lower event.key.provider
    +++ codes "\",\"timestamp\":" +++ decimal event.time
    +++ codes ",\"vehicle_state\":\"" +++ name_of event.state +++ codes "\"}")

-- a row of a table, as a table file has it
abbrev pub row_text : Row → List ℕ
row_text row =
    codes "{\"from\":\"" +++ name_of row.from +++ codes "\",\"to\":\""
    +++ name_of row.to +++ codes "\",\"type\":\"" +++ row.kind +++ codes "\"}"

-- a table and the time from which it is in force, as a file of several tables has them
abbrev pub table_text : Entry → List ℕ
table_text table =
    codes "{\"from_time\":" +++ decimal (start_of table)
    +++ codes ",\"rows\":[" +++ with_commas row_text (rows_of table) +++ codes "]}"

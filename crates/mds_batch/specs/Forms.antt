-- What the values of members stand for, where they have the form that is asked for.
use Rattle.std.specs.Prelude.{ℕ, ℤ, pos, ◌-ℤ◌, int_le, ◌&&◌, Bool, List, [], ◌∷◌, length, nat_le}
use Rattle.std.specs.Prelude.{if◌then◌else◌, Option, Some, None, option_map, option_and_then, codes}
use Rattle.uuid.specs.Text.{parsed}
use Rattle.serde_json.specs.Data.{Data}
use Rattle.serde_json.specs.Find.{get, as_str, as_number, as_array, as_u64, as_i64}
use Rattle.mds_table.specs.Json.{items_in, type_name_in}
use Rattle.mds_core.specs.Reported.{max_event_types}
use Rattle.mds_core.specs.Position.{max_latitude, max_longitude}
use Rattle.mds_core.specs.declared.position.Position.{Position}

-- the identifier that a value is: a text in one of the forms of a UUID
abbrev pub uuid_in : Data → Option (List ℕ)
uuid_in value = option_and_then parsed (as_str value)

-- the type names that values are, if each of them is one
abbrev pub all_types : List Data → Option (List (List ℕ))
all_types [] = Some []
all_types (value ∷ rest) =
    option_and_then (λ name. option_map (λ names. name ∷ names) (all_types rest))
    (type_name_in value)

-- at least one type name and not too many
abbrev pub few_types : List Data → Option (List (List ℕ))
few_types all =
    if nat_le 1 (length all) && nat_le (length all) max_event_types then all_types all else None

-- the types that a value lists
abbrev pub types_in : Data → Option (List (List ℕ))
types_in value = option_and_then (λ items. few_types (items_in items)) (as_array value)

-- the whole number that a member of a value is
abbrev pub whole_in : List ℕ → Data → Option ℤ
whole_in name value = option_and_then as_i64 (option_and_then as_number (get name value))

-- no further from 0 than this
abbrev pub is_within : ℕ → ℤ → Bool
is_within most whole = int_le (pos 0 -ℤ pos most) whole && int_le whole (pos most)

-- the place at a latitude and a longitude, where both are on the Earth, in ten-millionths of a
-- degree
abbrev pub position_at : ℤ → ℤ → Option Position
position_at lat lng =
    if is_within max_latitude lat && is_within max_longitude lng
    then Some (record { lat = lat; lng = lng })
    else None

-- the place that a value gives
abbrev pub position_of : Data → Option Position
position_of value =
    option_and_then
    (λ lat. option_and_then (λ lng. position_at lat lng) (whole_in (codes "lng") value))
    (whole_in (codes "lat") value)

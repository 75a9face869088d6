-- The line of a request is read as the data that it was laid out of.
use Rattle.std.proofs.Common.{◌≡◌, ℕ, ◌<◌, ◌≤◌, ◌^◌, ℤ, pos, negsuc, ◌-ℤ◌, ◌≤ℤ◌, decimal, List, [], ◌∷◌, Option, Some, None, refl, ◌∙◌, arith}
use Rattle.std.proofs.lemmas.Int.{ints}
use Rattle.std.specs.Int.Signed.{mag}
use Rattle.json.specs.Print.{IsNumber}
use Rattle.json.specs.Tree.{depth, items_depth, HasNumbers, ItemsHaveNumbers}
use Rattle.json.proofs.Printed.Decimals.{IsNumber-decimal, IsNumber-signed_decimal}
use Rattle.serde_json.specs.Data.{unsigned}
use Rattle.serde_json.specs.Find.{of_integer}
use Rattle.serde_json.specs.Read.{number_of, of_json, of_items, read, max_depth}
use Rattle.serde_json.specs.Written.{number_text, outline, items_outline, compact_text}
use Rattle.serde_json.proofs.Numbers.{number_of-decimal, number_of-negative}
use Rattle.mds_table.specs.Json.{max_time}
use Rattle.mds_core.specs.declared.key.Key.{Key}
use Rattle.mds_core.specs.declared.position.Position.{Position}
use Rattle.mds_core.specs.Position.{max_latitude, max_longitude, IsOnEarth}
use Rattle.mds_core.specs.Reported.{Reported}
use Rattle.mds_entries.specs.Whole.{IsPlace}
use Rattle.mds_entries.proofs.Printing.{read_compact}
use Rattle.mds_entries.proofs.LineData.{type_items, position_data, registration_data, event_data}

-- ---- numbers

fits_within : (z : ℤ) (most : ℕ) → most < 2 ^ 63 → (pos 0 -ℤ pos most) ≤ℤ z → z ≤ℤ pos most → mag z < 2 ^ 63
fits_within (pos n) most small low high = omega (arith, ints)
fits_within (negsuc n) most small low high = omega (arith, ints)

pub lat_fits : (lat lng : ℤ) → IsOnEarth lat lng → mag lat < 2 ^ 63
lat_fits lat lng is = fits_within lat max_latitude (omega arith) is.south is.north

pub lng_fits : (lat lng : ℤ) → IsOnEarth lat lng → mag lng < 2 ^ 63
lng_fits lat lng is = fits_within lng max_longitude (omega arith) is.west is.east

is_number : (z : ℤ) → mag z < 2 ^ 63 → IsNumber (number_text (of_integer z))
is_number (pos n) fits = IsNumber-signed_decimal (pos n) fits
is_number (negsuc n) fits = IsNumber-signed_decimal (negsuc n) fits

number_read : (z : ℤ) → mag z < 2 ^ 63 → number_of (number_text (of_integer z)) ≡ Some (of_integer z)
number_read (pos n) fits = number_of-decimal n (omega arith)
number_read (negsuc n) fits = number_of-negative n (omega arith)

time_number : (time : ℕ) → time ≤ max_time → IsNumber (decimal time)
time_number time in_range = IsNumber-decimal time (omega arith)

time_read : (time : ℕ) → time ≤ max_time → number_of (decimal time) ≡ Some (unsigned time)
time_read time in_range = number_of-decimal time (omega arith)

-- ---- positions

position_numbers : (position : Option Position) → IsPlace position → HasNumbers (outline (position_data position))
position_numbers None is = tt
position_numbers (Some position) is =
    (is_number position.lat (lat_fits position.lat position.lng is), (is_number position.lng (lng_fits position.lat position.lng is), tt))

position_depth : (position : Option Position) → depth (outline (position_data position)) ≤ 1
position_depth None = omega arith
position_depth (Some position) = omega arith

position_read : (position : Option Position) → IsPlace position → of_json (outline (position_data position)) ≡ Some (position_data position)
position_read None is = refl
position_read (Some position) is =
    rw (number_read position.lat (lat_fits position.lat position.lng is), number_read position.lng (lng_fits position.lat position.lng is)) refl

-- ---- types

types_numbers : (names : List (List ℕ)) → ItemsHaveNumbers (items_outline (type_items names))
types_numbers [] = tt
types_numbers (name ∷ names) = (tt, types_numbers names)

types_depth : (names : List (List ℕ)) → items_depth (items_outline (type_items names)) ≤ 0
types_depth [] = omega arith
types_depth (name ∷ names) = let rest = types_depth names in omega arith

types_read : (names : List (List ℕ)) → of_items (items_outline (type_items names)) ≡ Some (type_items names)
types_read [] = refl
types_read (name ∷ names) = rw (types_read names) refl

-- ---- lines

pub registration_read : (key : Key) → read (compact_text (registration_data key)) ≡ Some (registration_data key)
registration_read key = read_compact (registration_data key) (tt, (tt, tt)) (omega arith) ∙ refl

pub event_read : (event : Reported) → event.time ≤ max_time → IsPlace event.position → read (compact_text (event_data event)) ≡ Some (event_data event)
event_read event in_range is =
    let shallow : depth (outline (event_data event)) ≤ max_depth = omega (arith, types_depth event.types, position_depth event.position) in
    let numbers : HasNumbers (outline (event_data event)) =
    (tt, (tt, (types_numbers event.types, (position_numbers event.position is, (tt, (time_number event.time in_range, (tt, tt))))))) in
    read_compact (event_data event) numbers shallow ∙ rw (types_read event.types, position_read event.position is, time_read event.time in_range) refl

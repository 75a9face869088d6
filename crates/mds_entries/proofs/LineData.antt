-- The data that the line of a request stands for.
use Rattle.std.proofs.Common.{◌≡◌, ℕ, ℤ, pos, negsuc, codes, decimal, true, List, [], ◌∷◌, ◌++◌, Option, Some, None, refl, ap, sym, ◌∙◌, append_assoc}
use Rattle.std.specs.List.{flat_map, AllByRecursion}
use Rattle.std.specs.Fmt.{signed_decimal}
use Rattle.json.specs.Print.{quoted, escape, escape_byte}
use Rattle.serde_json.specs.Data.{Data, unsigned, null, number, string, array, object, Items, no_items, item, Members, no_members, member}
use Rattle.serde_json.specs.Find.{of_integer}
use Rattle.serde_json.specs.Written.{number_text, compact_text, items_text, members_text}
use Rattle.uuid.specs.Text.{hyphenated_text, lower}
use Rattle.mds_table.specs.State.{name_of}
use Rattle.mds_table.specs.TypeName.{IsTypeName}
use Rattle.mds_core.specs.declared.key.Key.{Key}
use Rattle.mds_core.specs.declared.position.Position.{Position}
use Rattle.mds_core.specs.Reported.{Reported}
use Rattle.mds_batch.specs.Texts.{◌+++◌, with_commas, quoted_text, position_text, registration_text, event_text}
use Rattle.mds_entries.proofs.PlainTexts.{plain_uuid, plain_name, plain_state}

-- the text of an identifier
abbrev pub uuid_data : List ℕ → Data
uuid_data bytes = string (hyphenated_text lower bytes)

-- the names of types
abbrev pub type_items : List (List ℕ) → Items
type_items [] = no_items
type_items (name ∷ names) = item (string name) (type_items names)

-- a position, or null where there is none
abbrev pub position_data : Option Position → Data
position_data None = null
position_data (Some position) =
    object (member (codes "lat") (number (of_integer position.lat)) (member (codes "lng") (number (of_integer position.lng)) no_members))

-- a registration: its members from each on
abbrev pub provider_member : List ℕ → Members → Members
provider_member provider more = member (codes "provider_id") (uuid_data provider) more

abbrev pub registration_data : Key → Data
registration_data key = object (member (codes "device_id") (uuid_data key.device) (provider_member key.provider no_members))

-- an event: the same
abbrev pub from_state : Reported → Members
from_state event = member (codes "vehicle_state") (string (name_of event.state)) no_members

abbrev pub from_time : Reported → Members
from_time event = member (codes "timestamp") (number (unsigned event.time)) (from_state event)

abbrev pub from_provider : Reported → Members
from_provider event = provider_member event.key.provider (from_time event)

abbrev pub from_place : Reported → Members
from_place event = member (codes "location_e7") (position_data event.position) (from_provider event)

abbrev pub from_types : Reported → Members
from_types event = member (codes "event_types") (array (type_items event.types)) (from_place event)

abbrev pub from_id : Reported → Members
from_id event = member (codes "event_id") (uuid_data event.id) (from_types event)

abbrev pub event_data : Reported → Data
event_data event = object (member (codes "device_id") (uuid_data event.key.device) (from_id event))

-- ---- a request is laid out as its compact text

string_then : (text rest : List ℕ) → escape text ≡ text → codes "\"" ++ (text ++ (codes "\"" ++ rest)) ≡ compact_text (string text) ++ rest
string_then text rest plain = rw plain (ap (λ all. 34 ∷ all) (sym (append_assoc text (34 ∷ []) rest)))

first_text : (name text rest : List ℕ) (others : Members) → escape text ≡ text → rest ≡ members_text true others
    → (codes "{" ++ (quoted name ++ codes ":\"")) ++ (text ++ (codes "\"" ++ rest)) ≡ compact_text (object (member name (string text) others))
first_text name text rest others plain more =
    ap (λ all. 123 ∷ all) (append_assoc (quoted name) (codes ":\"") (text ++ (codes "\"" ++ rest)))
    ∙ ap (λ all. 123 ∷ (quoted name ++ 58 ∷ all)) (string_then text rest plain ∙ ap (λ all. compact_text (string text) ++ all) more)

more_text : (name text rest : List ℕ) (others : Members) → escape text ≡ text → rest ≡ members_text true others
    → (codes "," ++ (quoted name ++ codes ":\"")) ++ (text ++ (codes "\"" ++ rest)) ≡ members_text true (member name (string text) others)
more_text name text rest others plain more =
    ap (λ all. 44 ∷ all) (append_assoc (quoted name) (codes ":\"") (text ++ (codes "\"" ++ rest)))
    ∙ ap (λ all. 44 ∷ (quoted name ++ 58 ∷ all)) (string_then text rest plain ∙ ap (λ all. compact_text (string text) ++ all) more)

more_value : (name text rest : List ℕ) (value : Data) (others : Members) → text ≡ compact_text value → rest ≡ members_text true others
    → (codes "," ++ (quoted name ++ codes ":")) ++ (text ++ rest) ≡ members_text true (member name value others)
more_value name text rest value others same more =
    ap (λ all. 44 ∷ all) (append_assoc (quoted name) (codes ":") (text ++ rest))
    ∙ ap (λ all. 44 ∷ (quoted name ++ 58 ∷ all)) (ap (λ all. all ++ rest) same ∙ ap (λ all. compact_text value ++ all) more)

pub registration_text-compact : (key : Key) → registration_text key ≡ compact_text (registration_data key)
unfolding escape_byte
registration_text-compact key =
    let provider = more_text (codes "provider_id") (hyphenated_text lower key.provider) (codes "}") no_members (plain_uuid key.provider) refl in
    first_text (codes "device_id") (hyphenated_text lower key.device) _ (provider_member key.provider no_members) (plain_uuid key.device) provider

number_text-of_integer : (z : ℤ) → number_text (of_integer z) ≡ signed_decimal z
number_text-of_integer (pos n) = refl
number_text-of_integer (negsuc n) = refl

position_text-compact : (position : Option Position) → position_text position ≡ compact_text (position_data position)
unfolding escape_byte
position_text-compact None = refl
position_text-compact (Some position) = rw (number_text-of_integer position.lat, number_text-of_integer position.lng) refl

more_names : (names : List (List ℕ)) → AllByRecursion IsTypeName names → flat_map (λ name. codes "," ++ quoted_text name) names ++ codes "]" ≡ items_text true (type_items names)
more_names [] are = refl
more_names (name ∷ names) are =
    let rest = flat_map (λ other. codes "," ++ quoted_text other) names in
    append_assoc (codes "," ++ quoted_text name) rest (codes "]") ∙ ap (λ all. 44 ∷ 34 ∷ all) (append_assoc name (codes "\"") (rest ++ codes "]"))
    ∙ ap (λ all. 44 ∷ all) (string_then name (rest ++ codes "]") (plain_name name are.0.bytes)) ∙ ap (λ all. 44 ∷ (compact_text (string name) ++ all)) (more_names names are.1)

names_text : (names : List (List ℕ)) → AllByRecursion IsTypeName names → codes "[" ++ (with_commas quoted_text names ++ codes "]") ≡ compact_text (array (type_items names))
names_text [] are = refl
names_text (name ∷ names) are =
    let rest = flat_map (λ other. codes "," ++ quoted_text other) names in
    ap (λ all. 91 ∷ all) (append_assoc (quoted_text name) rest (codes "]") ∙ ap (λ all. 34 ∷ all) (append_assoc name (codes "\"") (rest ++ codes "]"))
    ∙ string_then name (rest ++ codes "]") (plain_name name are.0.bytes) ∙ ap (λ all. compact_text (string name) ++ all) (more_names names are.1))

regroup : (a device b id c types d rest : List ℕ) → (a ++ (device ++ (b ++ (id ++ (c ++ (types ++ d)))))) ++ rest ≡ a ++ (device ++ (b ++ (id ++ (c ++ ((types ++ d) ++ rest)))))
regroup a device b id c types d rest = simp append_assoc

pub event_text-compact : (event : Reported) → AllByRecursion IsTypeName event.types → event_text event ≡ compact_text (event_data event)
unfolding escape_byte
event_text-compact event are =
    let state = more_text (codes "vehicle_state") (name_of event.state) (codes "}") no_members (plain_state event.state) refl in
    let time = more_value (codes "timestamp") (decimal event.time) _ (number (unsigned event.time)) (from_state event) refl state in
    let provider = more_text (codes "provider_id") (hyphenated_text lower event.key.provider) _ (from_time event) (plain_uuid event.key.provider) time in
    let place = more_value (codes "location_e7") (position_text event.position) _ (position_data event.position) (from_provider event) (position_text-compact event.position) provider in
    let types = more_value (codes "event_types") (codes "[" ++ (with_commas quoted_text event.types ++ codes "]")) _ (array (type_items event.types)) (from_place event) (names_text event.types are) place in
    let id = more_text (codes "event_id") (hyphenated_text lower event.id) _ (from_types event) (plain_uuid event.id) types in
    let device = first_text (codes "device_id") (hyphenated_text lower event.key.device) _ (from_id event) (plain_uuid event.key.device) id in
    let rest = codes ",\"location_e7\":" +++ position_text event.position +++ codes ",\"provider_id\":\"" +++ hyphenated_text lower event.key.provider
    +++ codes "\",\"timestamp\":" +++ decimal event.time +++ codes ",\"vehicle_state\":\"" +++ name_of event.state +++ codes "\"}" in
    regroup (codes "{\"device_id\":\"") (hyphenated_text lower event.key.device) (codes "\",\"event_id\":\"") (hyphenated_text lower event.id) (codes "\",\"event_types\":[")
    (with_commas quoted_text event.types) (codes "]") rest ∙ device

-- Texts of which no byte is escaped.
use Rattle.std.proofs.Common.{◌≡◌, ℕ, ◌<◌, Bool, true, false, List, [], ◌∷◌, ◌++◌, if◌then◌else◌, refl, ap, ◌∙◌, arith}
use Rattle.std.proofs.lemmas.Bool.{and_parts}
use Rattle.std.proofs.lemmas.Bool.Decides.{nat_tests}
use Rattle.std.specs.List.{list_all}
use Rattle.json.specs.Run.{is_plain}
use Rattle.json.specs.Print.{escape, escape_byte}
use Rattle.json.proofs.Printed.Plain.{escape_on_plain}
use Rattle.json.proofs.Printed.Strings.{escape_byte_plain}
use Rattle.uuid.specs.Text.{hyphenated_text, lower, hex_digit, nibble, is_hyphen_place, digit_place}
use Rattle.uuid.proofs.TextLemmas.{by_index_length, by_index_at, nibble_small}
use Rattle.mds_table.specs.declared.state.State.{State}
use Rattle.mds_table.specs.declared.state.State.TheVariants.{Removed, Available, NonOperational, Reserved, OnTrip, Elsewhere, NonContactable, Missing, InDepot}
use Rattle.mds_table.specs.State.{name_of}
use Rattle.mds_table.specs.TypeName.{may_stand}

-- a hex digit, or the hyphen between two of them
plain_digit : (digit : ℕ) → digit < 16 → is_plain (hex_digit lower digit) ≡ true
plain_digit digit small = grind (arith, nat_tests)

plain_place : (b : Bool) (digit : ℕ) → digit < 16 → is_plain (if b then 45 else hex_digit lower digit) ≡ true
plain_place true digit small = refl
plain_place false digit small = plain_digit digit small

-- the text of a UUID
pub plain_uuid : (bytes : List ℕ) → escape (hyphenated_text lower bytes) ≡ hyphenated_text lower bytes
plain_uuid bytes =
    let at = λ (k : ℕ). if is_hyphen_place k then 45 else hex_digit lower (nibble bytes (digit_place k)) in
    let long = by_index_length 36 at in
    escape_on_plain true (hyphenated_text lower bytes) (λ k from to.
    let here = by_index_at 36 at k 0 (omega arith) in
    rw here (plain_place (is_hyphen_place k) (nibble bytes (digit_place k)) (nibble_small bytes (digit_place k))))

-- a byte of a type name
plain_byte : (byte : ℕ) → may_stand byte ≡ true → escape_byte byte ≡ byte ∷ []
plain_byte byte may = escape_byte_plain byte (λ same. grind (arith, nat_tests)) (λ same. grind (arith, nat_tests)) (grind (arith, nat_tests))

-- the text of a type name
pub plain_name : (text : List ℕ) → list_all may_stand text ≡ true → escape text ≡ text
plain_name [] each = refl
plain_name (byte ∷ text) each =
    let parts = and_parts _ _ each in
    ap (λ front. front ++ escape text) (plain_byte byte parts.0) ∙ ap (λ rest. byte ∷ rest) (plain_name text parts.1)

-- the name of a state
pub plain_state : (state : State) → escape (name_of state) ≡ name_of state
unfolding escape_byte
plain_state Removed = refl
plain_state Available = refl
plain_state NonOperational = refl
plain_state Reserved = refl
plain_state OnTrip = refl
plain_state Elsewhere = refl
plain_state NonContactable = refl
plain_state Missing = refl
plain_state InDepot = refl

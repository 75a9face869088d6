-- Lines of texts and checks: behind the texts of each group stands its check.
use Rattle.std.specs.Prelude.{◌≡◌, ◌≢◌, ◌↔◌, ℕ, ◌+◌, ◌/◌, ◌%◌, ◌^◌, ◌==◌, nat_lt, bit_xor}
use Rattle.std.specs.Prelude.{List, [], ◌∷◌, ◌++◌, length, map, codes, if◌then◌else◌}
use Rattle.std.specs.Prelude.{Bool, true, false}
use Rattle.mds_journal.specs.Lines.{open_lines}
use Rattle.mds_check.specs.Crc.{after_bytes, crc32}

-- a digit of base 16, in lower case
unfoldable pub hex_digit : ℕ → ℕ
hex_digit digit = if nat_lt digit 10 then digit + 48 else digit + 87

-- the digit of a number that stands at a place of so many bits
abbrev pub digit_of : ℕ → ℕ → ℕ
digit_of number place = hex_digit (number / 2 ^ place % 16)

-- the 8 digits of a check, the highest first
abbrev pub check_digits : ℕ → List ℕ
check_digits check =
    map (digit_of check) (28 ∷ 24 ∷ 20 ∷ 16 ∷ 12 ∷ 8 ∷ 4 ∷ 0 ∷ [])

-- a check as a line has it: 20 bytes, as {"crc32":"89abcdef"}
unfoldable pub check_text : ℕ → List ℕ
check_text check = codes "{\"crc32\":\"" ++ check_digits check ++ codes "\"}"

-- a line that is a text and no check: its length alone tells them apart
abbrev pub IsText : List ℕ → Type 0
IsText line = length line ≢ 20

-- the lines of some groups: of each its texts, and then the check of these as open lines
abbrev pub laid_out : List (List (List ℕ)) → List (List ℕ)
laid_out [] = []
laid_out (group ∷ groups) = group ++ check_text (crc32 (open_lines group)) ∷ laid_out groups

-- a text in front of the first of some groups; where there is none, no check comes behind it
abbrev pub with_text : List ℕ → List (List (List ℕ)) → List (List (List ℕ))
with_text text [] = []
with_text text (group ∷ groups) = (text ∷ group) ∷ groups

-- the groups of some lines that end with a check, whatever the checks say
abbrev pub groups_of : List (List ℕ) → List (List (List ℕ))
groups_of [] = []
groups_of (line ∷ lines) =
    if length line == 20 then [] ∷ groups_of lines else with_text line (groups_of lines)

-- each line belongs to a group that is ended, and each check fits
abbrev pub IsChecked : List (List ℕ) → Type 0
IsChecked lines = laid_out (groups_of lines) ≡ lines

-- how far the check of a group has come: its state, and whether a text of the group has been taken
pub record CheckState : Type 0 where
  pub state : ℕ
  pub begun : Bool

-- no group is begun
abbrev pub between_groups : CheckState
between_groups = record { state = 0xFFFF_FFFF; begun = false }

-- a text more has been taken
abbrev pub behind_text : CheckState → List ℕ → CheckState
behind_text check text =
    record { state = after_bytes check.state (open_lines (text ∷ [])); begun = true }

-- whether there is a text
abbrev pub is_begun : List (List ℕ) → Bool
is_begun [] = false
is_begun (text ∷ texts) = true

-- these texts of a group have been taken
abbrev pub behind_texts : List (List ℕ) → CheckState
behind_texts texts =
    record { state = after_bytes 0xFFFF_FFFF (open_lines texts); begun = is_begun texts }

-- this line is the check of the texts that have been taken
abbrev pub IsCheckOf : CheckState → List ℕ → Type 0
IsCheckOf check line = line ≡ check_text (bit_xor check.state 0xFFFF_FFFF)

-- these lines fit from here on: each line of 20 bytes is the check of the texts before it, and no
-- group that is begun is left at the end
abbrev pub FitsFrom : CheckState → List (List ℕ) → Type 0
FitsFrom check [] = check.begun ≡ false
FitsFrom check (line ∷ lines) =
    (IsText line → FitsFrom (behind_text check line) lines)
    × (length line ≡ 20 → IsCheckOf check line × FitsFrom between_groups lines)

-- these lines have been taken: what has to come behind them is what fits from here on
abbrev pub HasTaken : CheckState → List (List ℕ) → Type 0
HasTaken check lines =
    (later : List (List ℕ)) → IsChecked (lines ++ later) ↔ FitsFrom check later

-- What the checks find, and that groups are read as they were written.
use Rattle.std.specs.Prelude.{◌≡◌, ◌≢◌, ℕ, ◌*◌, ◌<◌, ◌≤◌, ◌^◌, bit_xor}
use Rattle.std.specs.Prelude.{List, [], ◌∷◌, ◌++◌, length, All}
use Rattle.mds_journal.specs.Lines.{HasNoFeed, recovered_texts, open_lines}
use Rattle.mds_check.specs.Crc.{crc32}
use Rattle.mds_check.specs.Form.{check_text, IsText, laid_out, groups_of, IsChecked}

-- a number of 8 bits
abbrev pub IsByte : ℕ → Type 0
IsByte byte = byte < 2 ^ 8

-- the number whose bits are those of some bytes, in the order in which the check takes them
abbrev pub number_of : List ℕ → ℕ
number_of [] = 0
number_of (byte ∷ bytes) = bit_xor byte (number_of bytes * 2 ^ 8)

-- bytes of one length that differ in a run of at most 32 bits, wherever it begins
pub record DifferInARun (xs ys : List ℕ) : Type 0 where
  pub size : length xs ≡ length ys
  pub are_bytes : All IsByte xs × All IsByte ys
  pub run : ℕ
  pub place : ℕ
  pub differ : bit_xor (number_of xs) (number_of ys) ≡ run * 2 ^ place
  pub some : 0 < run
  pub short : run < 2 ^ 32

-- a changed byte changes the check
abbrev pub ChangesOfAByteAreFound : Type 0
ChangesOfAByteAreFound =
    (front back : List ℕ) (x y : ℕ)
    → IsByte x → IsByte y → x ≢ y → crc32 (front ++ x ∷ back) ≢ crc32 (front ++ y ∷ back)

-- up to four changed bytes in a row change the check
abbrev pub ChangesOfFourBytesAreFound : Type 0
ChangesOfFourBytesAreFound =
    (front back xs ys : List ℕ)
    → All IsByte xs → All IsByte ys → length xs ≡ length ys → length xs ≤ 4 → xs ≢ ys
    → crc32 (front ++ xs ++ back) ≢ crc32 (front ++ ys ++ back)

-- changed bits change the check where the first and the last of them are at most 31 bits apart
abbrev pub RunsOf32BitsAreFound : Type 0
RunsOf32BitsAreFound = (xs ys : List ℕ) → DifferInARun xs ys → crc32 xs ≢ crc32 ys

-- different checks have different texts
abbrev pub ChecksAreApart : Type 0
ChecksAreApart = (m n : ℕ) → m < 2 ^ 32 → n < 2 ^ 32 → check_text m ≡ check_text n → m ≡ n

-- the groups of lines that were laid out are those that were laid out
abbrev pub GroupsReadBack : Type 0
GroupsReadBack =
    (groups : List (List (List ℕ))) → All (All IsText) groups → groups_of (laid_out groups) ≡ groups

-- of two lists of lines that differ in one byte not both are checked
abbrev pub ChangedLinesAreFound : Type 0
ChangedLinesAreFound =
    (before after : List (List ℕ)) (front back : List ℕ) (x y : ℕ)
    → IsByte x → IsByte y → x ≢ y
    → IsChecked (before ++ (front ++ x ∷ back) ∷ after)
    → IsChecked (before ++ (front ++ y ∷ back) ∷ after) → ⊥

-- a file of groups, whose end stands for nothing, is read as these groups, and is checked
abbrev pub WrittenGroupsAreRead : Type 0
WrittenGroupsAreRead =
    (groups : List (List (List ℕ))) (end : List ℕ)
    → All (All IsText) groups → All (All HasNoFeed) groups → recovered_texts end ≡ []
    → let lines = recovered_texts (open_lines (laid_out groups) ++ end) in
    (groups_of lines ≡ groups) × IsChecked lines

-- some open lines, and another one with this byte in it, whatever stands behind it
abbrev pub file_with : List (List ℕ) → List ℕ → ℕ → List ℕ → List ℕ → List ℕ
file_with before front byte back rest =
    open_lines before ++ 32 ∷ (front ++ byte ∷ (back ++ 10 ∷ rest))

-- of two files that differ in one byte of a line's text not both are checked
abbrev pub ChangedFilesAreFound : Type 0
ChangedFilesAreFound =
    (before : List (List ℕ)) (front back rest : List ℕ) (x y : ℕ)
    → All HasNoFeed before → HasNoFeed front → HasNoFeed back → x ≢ 10 → y ≢ 10
    → IsByte x → IsByte y → x ≢ y
    → IsChecked (recovered_texts (file_with before front x back rest))
    → IsChecked (recovered_texts (file_with before front y back rest)) → ⊥

-- of two files not both are checked where in one of them another byte stands in the place of the
-- line feed between two texts, unless the line that these become is as long as a check
abbrev pub JoinedLinesAreFound : Type 0
JoinedLinesAreFound =
    (before : List (List ℕ)) (first second rest : List ℕ) (byte : ℕ)
    → All HasNoFeed before → HasNoFeed first → HasNoFeed second → IsByte byte → byte ≢ 10
    → IsText first → IsText second → IsText (first ++ byte ∷ 32 ∷ second)
    → IsChecked (recovered_texts (file_with before first 10 (32 ∷ second) rest))
    → IsChecked (recovered_texts (file_with before first byte (32 ∷ second) rest)) → ⊥

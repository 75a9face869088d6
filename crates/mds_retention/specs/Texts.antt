-- What is known of the texts of a journal's groups while they are handed out.
use Rattle.std.specs.Prelude.{◌≡◌, ◌≤◌, ◌<◌, ◌-◌, ◌+◌, ◌^◌, ℕ, List, [], ◌∷◌, ◌++◌, length, drop}
use Rattle.std.specs.Prelude.{Option, slice_index_or}
use Rattle.mds_table.specs.Json.{max_bytes}
use Rattle.mds_groups.specs.Entries.{numbers_from, AreEntries, IsEntryAt}
use Rattle.mds_groups.specs.Form.{texts_in}
use Rattle.mds_groups.specs.Stream.{texts_of, HasTaken}
use Rattle.mds_journal.specs.Stream.{IsStream, most_of, unread_of}
use Rattle.mds_retention.specs.declared.error.LinesError.{LinesError}
use Rattle.mds_retention.specs.declared.texts.TextLines.{TextLines}
use Rattle.mds_retention.specs.Place.{HasAll, IsAt}
use Rattle.mds_retention.specs.Telling.{AreLines, Gives, HasFront, IsShort, StopsBehind}

-- the next text may be asked for
pub record IsReading {R : Type 0} (reader : TextLines R) : Type 0 where
  pub stream : IsStream reader.lines
  pub limit : most_of reader.lines ≡ max_bytes
  pub within : reader.next ≤ length reader.group.texts.items
  pub few : reader.group.first + length reader.group.texts.items ≤ 2 ^ 64

-- a text of the last group was handed out
abbrev pub IsOut : {R : Type 0} → TextLines R → Type 0
IsOut reader = 0 < reader.next

-- the text that was handed out last
abbrev pub text_of : {R : Type 0} → TextLines R → List ℕ
text_of reader = slice_index_or (texts_of reader.group) (reader.next - 1) []

-- the number of its line
abbrev pub number_of : {R : Type 0} → TextLines R → ℕ
number_of reader = reader.group.first + (reader.next - 1)

-- the texts of the last group that come next
abbrev pub to_come : {R : Type 0} → TextLines R → List (List ℕ)
to_come reader = drop reader.next (texts_of reader.group)

-- the lines so far are the front of a journal; these texts of its whole groups were handed out, and
-- those come next that the last group has yet
pub record HasRead {R : Type 0} (remaining : R → Option (List ℕ)) (known : Option (List ℕ))
    (reader : TextLines R) (texts : List (List ℕ)) : Type 0 where
  pub lines : List (List ℕ)
  pub groups : List (List (List ℕ))
  pub given : Gives known lines (unread_of remaining reader.lines)
  pub stream : HasTaken reader.groups lines groups
  pub at : IsAt lines reader.place
  pub told : texts_in groups ≡ texts ++ to_come reader
  pub entries : AreEntries lines texts (to_come reader)
      (numbers_from (reader.group.first + reader.next) (length (to_come reader)))

-- behind these texts of known bytes comes this one; its line has this number, and isn't too long
abbrev pub IsNext : Option (List ℕ) → List (List ℕ) → ℕ → List ℕ → Type 0
IsNext known texts number text =
    (lines : List (List ℕ)) × HasFront known lines × IsEntryAt lines texts number text
    × IsShort text

-- of a reader's bytes
module _ {R : Type 0} (remaining : R → Option (List ℕ)) where
  -- whatever texts were handed out, the next one is too
  abbrev pub HandsOn : TextLines R → TextLines R → Type 0
  HandsOn old new =
      (known : Option (List ℕ)) (texts : List (List ℕ)) → HasRead remaining known old texts
      → HasRead remaining known new (texts ++ text_of new ∷ [])
      × IsNext known texts (number_of new) (text_of new)

  -- whatever texts were handed out, lines were read on
  abbrev pub ReadsOn : TextLines R → TextLines R → Type 0
  ReadsOn old new =
      (known : Option (List ℕ)) (texts : List (List ℕ)) → HasRead remaining known old texts
      → HasRead remaining known new texts

  -- they were read on to the last one
  abbrev pub HasEnded : TextLines R → TextLines R → Type 0
  HasEnded old new =
      (known : Option (List ℕ)) (texts : List (List ℕ)) → HasRead remaining known old texts
      → (read : HasRead remaining known new texts) × AreLines known read.lines

  -- whatever texts were handed out, they are all
  abbrev pub ReadsAll : TextLines R → TextLines R → Type 0
  ReadsAll old new =
      (known : Option (List ℕ)) (texts : List (List ℕ)) → HasRead remaining known old texts
      → HasAll known texts new.place

  -- whatever texts were handed out, this is why no more are
  abbrev pub StopsTexts : TextLines R → LinesError → Type 0
  StopsTexts old error =
      (known : Option (List ℕ)) (texts : List (List ℕ)) → HasRead remaining known old texts
      → StopsBehind known texts error

-- Where the texts of groups stand among the lines of a journal.
use Rattle.std.specs.Prelude.{◌≡◌, ℕ, zero, suc, ◌+◌, List, [], ◌∷◌, ◌++◌, length, All}
use Rattle.mds_groups.specs.Form.{group_lines, texts_in, IsEntry, IsJournal}
use Rattle.mds_groups.specs.declared.form.JournalForm.{JournalForm}

-- the line of this number has this text, in a group that is whole, and these are the texts before it
pub record IsEntryAt (lines before : List (List ℕ)) (number : ℕ) (text : List ℕ) : Type 0 where
  pub form : JournalForm
  pub whole : List (List ℕ)
  pub groups : List (List (List ℕ))
  pub journal : IsJournal form whole groups
  pub front : List (List ℕ)
  pub back : List (List ℕ)
  pub rest : List (List ℕ)
  pub split : lines ≡ (whole ++ group_lines form (front ++ text ∷ back)) ++ rest
  pub entries : All (IsEntry form) (front ++ text ∷ back)
  pub texts : before ≡ texts_in groups ++ front
  pub place : number ≡ length whole + length front

-- behind these texts come others, whose lines have these numbers, of which there may be more
abbrev pub AreEntries : List (List ℕ) → List (List ℕ) → List (List ℕ) → List ℕ → Type 0
AreEntries lines before [] numbers = Unit {0}
AreEntries lines before (text ∷ texts) [] = ⊥
AreEntries lines before (text ∷ texts) (number ∷ numbers) =
    IsEntryAt lines before number text × AreEntries lines (before ++ text ∷ []) texts numbers

-- so many numbers, one behind the other
abbrev pub numbers_from : ℕ → ℕ → List ℕ
numbers_from first zero = []
numbers_from first (suc count) = first ∷ numbers_from (first + 1) count

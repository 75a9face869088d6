-- How far the lines of a journal were read.
use Rattle.std.specs.Prelude.{◌≡◌, ℕ, List, ◌++◌, length, All, Option, IfSome}
use Rattle.mds_core.specs.declared.request.Request.{Request}
use Rattle.mds_groups.specs.Form.{texts_in, IsJournal}
use Rattle.mds_journal.specs.Lines.{recovered_texts, open_lines}
use Rattle.mds_retention.specs.declared.place.Place.{Place}
use Rattle.mds_retention.specs.Telling.{AreLines, IsShort, IsTaken}

-- these lines come before a place, and none is too long
pub record IsAt (lines : List (List ℕ)) (place : Place) : Type 0 where
  pub bytes : place.bytes ≡ length (open_lines lines)
  pub count : place.lines ≡ length lines
  pub short : All IsShort lines

-- they are a journal with these groups
pub record IsPlaceOf (lines : List (List ℕ)) (groups : List (List (List ℕ))) (place : Place)
    : Type 0 where
  pub journal : IsJournal place.form lines groups
  pub at : IsAt lines place

-- in known bytes these lines count first
abbrev pub Begins : List (List ℕ) → Option (List ℕ) → Type 0
Begins lines known =
    IfSome known
    (λ bytes. (more : List (List ℕ)) × (recovered_texts bytes ≡ lines ++ more))

-- the lines that count are a journal with these texts, and the place is behind them
pub record HasAll (known : Option (List ℕ)) (texts : List (List ℕ)) (place : Place) : Type 0 where
  pub lines : List (List ℕ)
  pub groups : List (List (List ℕ))
  pub counted : AreLines known lines
  pub is : IsPlaceOf lines groups place
  pub told : texts_in groups ≡ texts

-- the lines that count tell these requests, and the place is behind them
abbrev pub IsTakenTo : Option (List ℕ) → List Request → Place → Type 0
IsTakenTo known history place =
    (taken : IsTaken known history) × IsPlaceOf taken.lines taken.groups place

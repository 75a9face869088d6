-- The rule of a book of marks, and what its steps tell.
use Rattle.std.specs.Prelude.{◌≡◌, ◌<◌, ℕ, true, List, length, Some, slice_get}
use Rattle.logbook.specs.Pages.{Cell, cell, Step, View, may_make}

-- the number stands in the list
abbrev pub Has : List ℕ → ℕ → Type 0
Has log number = (place : ℕ) × (slice_get log place ≡ Some number)

-- the number does not stand in it
abbrev pub HasNot : List ℕ → ℕ → Type 0
HasNot log number = Has log number → ⊥

-- the first word is 0; a mark whose number is written is used up
pub record IsRolled (cells : List Cell) (log : List ℕ) : Type 0 where
  pub some : 0 < length cells
  pub head : cell cells 0 ≡ (0, true)
  pub spent : (number : ℕ) → Has log number → (cell cells number).1 ≡ true

-- a mark was made
abbrev pub MakesMark : Step ℕ → View ℕ ℕ → ℕ → View ℕ ℕ → Type 0
MakesMark s v found w = w.1.0.right ≡ may_make

-- the number was written, which had not been before
abbrev pub Retires : Step ℕ → View ℕ ℕ → ℕ → View ℕ ℕ → Type 0
Retires s v found w = HasNot v.0 s.ask × Has w.0 s.ask

-- The rule of a log, and what its steps tell. Each entry names the key of the pen that may add the
-- next one. The cell of a pen that is used up is at home.
use Rattle.std.specs.Prelude.{◌≡◌, ◌<◌, ℕ, true, List, [], ◌∷◌, ◌++◌, length}
use Rattle.logbook.specs.Pages.{Cell, cell, Book, Named, Step, View, may_make}
use Rattle.mds_log.specs.declared.entry.Entry.{Entry}

-- the key that the last entry names
abbrev pub last_key : ℕ → List Entry → ℕ
last_key key [] = key
last_key key (entry ∷ entries) = last_key entry.next entries

-- the pen of this key may add the next entry
abbrev pub IsKey : ℕ → List Entry → Type 0
IsKey key [] = ⊥
IsKey key (entry ∷ entries) = last_key entry.next entries ≡ key

-- the pen that may have added the next entry is used up
abbrev pub IsSpent : List Cell → List Entry → Type 0
IsSpent cells [] = Unit {0}
IsSpent cells (entry ∷ entries) = (cell cells (last_key entry.next entries)).1 ≡ true

-- the first word is the length of the log; wherever an entry follows, the pen that may have added
-- it is used up
pub record IsKept (cells : List Cell) (log : List Entry) : Type 0 where
  pub some : 0 < length cells
  pub head : cell cells 0 ≡ (length log, true)
  pub spent : (xs : List Entry) (entry : Entry) (ys : List Entry)
      → xs ++ entry ∷ ys ≡ log → IsSpent cells xs

-- the first word of a book
abbrev pub head_of : Book → Named
head_of book = record { tracked = true; key = 0; book = book }

-- if nothing was there, a pen was made, and an entry that names it
abbrev pub Begins : Step Entry → View Entry ℕ → ℕ → View Entry ℕ → Type 0
Begins s v found w = found ≡ 0 → (w.1.0.right ≡ may_make) × (length w.0 ≡ 1) × IsKey w.1.0.key w.0

-- a pen was made
abbrev pub Makes : Step Entry → View Entry ℕ → ℕ → View Entry ℕ → Type 0
Makes s v found w = w.1.0.right ≡ may_make

-- the log has the length that was expected
abbrev pub Checks : Step Entry → View Entry ℕ → ℕ → View Entry ℕ → Type 0
Checks s v found w = (length w.0 ≡ s.old) × (w.1.0 ≡ v.1.0)

-- the entry was added to all that had been seen
abbrev pub Adds : Step Entry → View Entry ℕ → ℕ → View Entry ℕ → Type 0
Adds s v found w = w.0 ≡ v.0 ++ s.ask ∷ []

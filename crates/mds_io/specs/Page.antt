-- How texts go out page by page.
use Rattle.std.specs.Prelude.{◌≡◌, ◌⊎◌, ◌<◌, ℕ, List, [], ◌∷◌, ◌++◌, length, Option}
use Rattle.std.specs.Io.KnownBytes.{Appends}

-- the text and a line feed
abbrev pub with_newline : List ℕ → List ℕ
with_newline text = text ++ 10 ∷ []

-- a front of the text went to the writer, and not all of it
abbrev pub AppendsFront : Option (List ℕ) → Option (List ℕ) → List ℕ → Type 0
AppendsFront old new text =
    (sent : List ℕ) × (rest : List ℕ)
    × (0 < length rest) × (text ≡ sent ++ rest) × Appends old new sent

-- the text went to the writer, or a front of it
abbrev pub AppendsUpTo : Option (List ℕ) → Option (List ℕ) → List ℕ → Type 0
AppendsUpTo old new text = Appends old new text ⊎ AppendsFront old new text

-- of the text a front went to the writer, and the rest is left waiting
abbrev pub Passes : Option (List ℕ) → Option (List ℕ) → List ℕ → List ℕ → Type 0
Passes old new text left = (sent : List ℕ) × (text ≡ sent ++ left) × Appends old new sent

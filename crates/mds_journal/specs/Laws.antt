-- What holds of files of lines, whoever reads or writes them.
use Rattle.std.specs.Prelude.{◌≡◌, ◌≢◌, ℕ, List, [], ◌∷◌, ◌++◌, take, All}
use Rattle.mds_journal.specs.Lines.{HasNoFeed, recovered_texts, open_lines}

-- a whole open line in front adds its text
abbrev pub WholeLinesCount : Type 0
WholeLinesCount =
    (text rest : List ℕ)
    → HasNoFeed text → recovered_texts (32 ∷ (text ++ 10 ∷ rest)) ≡ text ∷ recovered_texts rest

-- an open line with no line feed stands for nothing
abbrev pub TornLinesCountForNothing : Type 0
TornLinesCountForNothing = (text : List ℕ) → HasNoFeed text → recovered_texts (32 ∷ text) ≡ []

-- behind a gate that isn't open nothing counts
abbrev pub NothingCountsBehindAClosedGate : Type 0
NothingCountsBehindAClosedGate =
    (gate : ℕ) (rest : List ℕ) → gate ≢ 32 → recovered_texts (gate ∷ rest) ≡ []

-- open lines and a rest stand for the texts of the lines and what the rest stands for
abbrev pub LinesStandForTheirTexts : Type 0
LinesStandForTheirTexts =
    (texts : List (List ℕ)) (rest : List ℕ)
    → All HasNoFeed texts
    → recovered_texts (open_lines texts ++ rest) ≡ texts ++ recovered_texts rest

-- a file is open lines of what it stands for, and an end that stands for nothing
abbrev pub FilesAreLinesAndAnEnd : Type 0
FilesAreLinesAndAnEnd =
    (file : List ℕ)
    → (end : List ℕ)
    × (file ≡ open_lines (recovered_texts file) ++ end) × (recovered_texts end ≡ [])

-- no other texts fit
abbrev pub NoOtherTextsFit : Type 0
NoOtherTextsFit =
    (file end : List ℕ) (texts : List (List ℕ))
    → All HasNoFeed texts → file ≡ open_lines texts ++ end → recovered_texts end ≡ []
    → recovered_texts file ≡ texts

-- the front of an end that stands for nothing stands for nothing
abbrev pub FrontsOfEndsStandForNothing : Type 0
FrontsOfEndsStandForNothing =
    (n : ℕ) (end : List ℕ) → recovered_texts end ≡ [] → recovered_texts (take n end) ≡ []

-- no text that counts has a line feed
abbrev pub TextsHaveNoFeed : Type 0
TextsHaveNoFeed = (file : List ℕ) → All HasNoFeed (recovered_texts file)

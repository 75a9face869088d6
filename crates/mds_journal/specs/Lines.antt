-- What a file of lines stands for. 32 is a space, an open gate; 35 is '#'; 10 is a line feed.
use Rattle.std.specs.Prelude.{◌≢◌, ℕ, ◌==◌, if◌then◌else◌, List, [], ◌∷◌, ◌++◌, All}

-- no byte is a line feed
abbrev pub HasNoFeed : List ℕ → Type 0
HasNoFeed text = All (λ byte. byte ≢ 10) text

-- a byte before the first of some lines; where there is none, no line feed comes behind it
abbrev pub with_first : ℕ → List (List ℕ) → List (List ℕ)
with_first byte [] = []
with_first byte (line ∷ lines) = (byte ∷ line) ∷ lines

-- the lines of some bytes that end with a line feed, each without it
abbrev pub whole_lines : List ℕ → List (List ℕ)
whole_lines [] = []
whole_lines (byte ∷ bytes) =
    if byte == 10 then [] ∷ whole_lines bytes else with_first byte (whole_lines bytes)

-- the texts of the lines up to the first whose gate isn't open
abbrev pub open_texts : List (List ℕ) → List (List ℕ)
open_texts [] = []
open_texts ([] ∷ lines) = []
open_texts ((gate ∷ text) ∷ lines) = if gate == 32 then text ∷ open_texts lines else []

-- what a file stands for
abbrev pub recovered_texts : List ℕ → List (List ℕ)
recovered_texts file = open_texts (whole_lines file)

-- the texts that would count if the gate were open that some bytes begin with
abbrev pub lines_behind : List ℕ → List (List ℕ)
lines_behind [] = []
lines_behind (gate ∷ bytes) = recovered_texts (32 ∷ bytes)

-- open lines of these texts
abbrev pub open_lines : List (List ℕ) → List ℕ
open_lines [] = []
open_lines (text ∷ texts) = 32 ∷ (text ++ 10 ∷ open_lines texts)

-- open lines, and then a closed gate
abbrev pub at_rest : List (List ℕ) → List ℕ
at_rest texts = open_lines texts ++ 35 ∷ []

-- The types of an event, as they are kept.
use Rattle.std.specs.Prelude.{◌≡◌, ℕ, ◌-◌, ◌≤◌, ◌++◌, take, replicate, List, length, codes}
use Rattle.mds_core.specs.Reported.{max_event_types}

-- what stands where there is no further type
abbrev pub blank_type : List ℕ
blank_type = codes "unspecified"

-- the types as they are kept: their names, then blanks, as many in all as an event may have types
abbrev pub padded_types : List (List ℕ) → List (List ℕ)
padded_types types = types ++ replicate (max_event_types - length types) blank_type

-- these names, of which the first so many are the types, are the types as they are kept
pub record ArePadded (names : List (List ℕ)) (n : ℕ) : Type 0 where
  pub few : n ≤ max_event_types
  pub count : length (take n names) ≡ n
  pub whole : padded_types (take n names) ≡ names

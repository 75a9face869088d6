-- Lists that get more behind what they have.
use Rattle.std.specs.Prelude.{◌≡◌, ℕ, ◌+◌, ◌<◌, ◌≤◌, ◌^◌, ◌++◌, List, length, Vec, vec_len}
use Rattle.std.specs.Prelude.{vec_capacity, take, drop}
use Rattle.mds_core.specs.declared.key.Key.{Key}
use Rattle.mds_core.specs.Reported.{max_event_types}

-- the new list is the old one with at most so many more behind it
pub record AddsBehind {A : Type 0} (most : ℕ) (old new : List A) : Type 0 where
  pub more : List A
  pub is : new ≡ old ++ more
  pub few : length more ≤ most

-- there is memory for a further key and for the names of an event's types, and 32 bits say where
-- each of them stands
pub record HasRoom {A B : Type 0} (keys : Vec Key A) (names : Vec (List ℕ) B) : Type 0 where
  pub key : vec_len keys < vec_capacity keys
  pub types : vec_len names + max_event_types ≤ vec_capacity names
  pub key_fits : vec_len keys < 2 ^ 32
  pub types_fit : vec_len names + max_event_types < 2 ^ 32

-- among the names, these types stand from this place on
pub record StandsAt (types names : List (List ℕ)) (place : ℕ) : Type 0 where
  pub within : place + length types ≤ length names
  pub are : take (length types) (drop place names) ≡ types

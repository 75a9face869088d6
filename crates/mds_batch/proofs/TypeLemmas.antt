-- Type names that values are, one after another.
use Rattle.std.proofs.Common.{◌≡◌, ℕ, suc, ◌<◌, ◌≤◌, nat_le, ◌==◌, not, ◌&&◌, Bool, true, false, List, [], ◌∷◌, ◌++◌, length, Option, Some, None, option_map, option_and_then, cond, if◌then◌else◌, refl, ap, append_assoc, length-append, arith}
use Rattle.std.proofs.lemmas.Bool.{leb-true, le-leb, lt-leb}
use Rattle.std.proofs.Math.Dec.{eqb-suc-zero}
use Rattle.serde_json.specs.Data.{Data}
use Rattle.mds_core.specs.Reported.{max_event_types}
use Rattle.mds_table.specs.Json.{type_name_in}
use Rattle.mds_batch.specs.Forms.{all_types, few_types}
use Rattle.mds_batch.specs.Filled.{AreNamesOf}

-- values are as many as their type names
all_types-length : (all : List Data) (names : List (List ℕ)) → all_types all ≡ Some names → length names ≡ length all
all_types-length [] names is = let none : [] ≡ names = cc in cc
all_types-length (value ∷ rest) names is = read (type_name_in value) (all_types rest) (all_types-length rest) is where
  read : (name : Option (List ℕ)) (more : Option (List (List ℕ))) → ((others : List (List ℕ)) → more ≡ Some others → length others ≡ length rest)
      → option_and_then (λ first. option_map (λ others. first ∷ others) more) name ≡ Some names → length names ≡ suc (length rest)
  read None more later at = cc
  read (Some first) None later at = cc
  read (Some first) (Some others) later at =
      let same : first ∷ others ≡ names = cc in
      rw (← same) (ap suc (later others refl))

-- types in their form are few
pub few_types-length : (all : List Data) (names : List (List ℕ)) → few_types all ≡ Some names → (1 ≤ length names) × (length names ≤ max_event_types)
few_types-length all names is = read (nat_le 1 (length all)) (nat_le (length all) max_event_types) refl refl is where
  read : (some few : Bool) → nat_le 1 (length all) ≡ some → nat_le (length all) max_event_types ≡ few
      → (if some && few then all_types all else None) ≡ Some names → (1 ≤ length names) × (length names ≤ max_event_types)
  read true true some few at = let long = all_types-length all names at in
      (omega (arith, leb-true 1 (length all) some), omega (arith, leb-true (length all) max_event_types few))
  read true false some few at = cc
  read false few some at is = cc

-- the names of values and of one more
all_types-append : (items : List Data) (value : Data) (names : List (List ℕ)) (name : List ℕ) → all_types items ≡ Some names → type_name_in value ≡ Some name
    → all_types (items ++ value ∷ []) ≡ Some (names ++ name ∷ [])
all_types-append [] value names name are is = let none : [] ≡ names = cc in rw (is, ← none)
all_types-append (first ∷ items) value names name are is = read (type_name_in first) (all_types items) (λ rest same. all_types-append items value rest name same is) are where
  read : (one : Option (List ℕ)) (more : Option (List (List ℕ))) → ((rest : List (List ℕ)) → more ≡ Some rest → all_types (items ++ value ∷ []) ≡ Some (rest ++ name ∷ []))
      → option_and_then (λ n. option_map (λ ns. n ∷ ns) more) one ≡ Some names
      → option_and_then (λ n. option_map (λ ns. n ∷ ns) (all_types (items ++ value ∷ []))) one ≡ Some (names ++ name ∷ [])
  read None more later at = cc
  read (Some n) None later at = cc
  read (Some n) (Some ns) later at = let same : n ∷ ns ≡ names = cc in rw (later ns refl, ← same)

-- values have no names where one of them has none
all_types-none : (items : List Data) (value : Data) (more : List Data) → type_name_in value ≡ None → all_types (items ++ value ∷ more) ≡ None
all_types-none [] value more none = rw none
all_types-none (first ∷ items) value more none = rw (all_types-none items value more none) (read (type_name_in first)) where
  read : (one : Option (List ℕ)) → option_and_then (λ n. option_map (λ ns. n ∷ ns) None) one ≡ None
  read None = refl
  read (Some n) = refl

-- values without names are no few types
few_types-none : (all : List Data) → all_types all ≡ None → few_types all ≡ None
few_types-none all none = rw none (read (nat_le 1 (length all) && nat_le (length all) max_event_types)) where
  read : (b : Bool) → cond {A = Option (List (List ℕ))} b None None ≡ None
  read true = refl
  read false = refl

-- the names of values are few types if there are any
pub few_named : (items : List Data) (names : List (List ℕ)) → AreNamesOf true items names → few_types items ≡ cond (not (length names == 0)) (Some names) None
few_named items names are = rw (are.0, le-leb (length items) max_event_types are.1, ← all_types-length items names are.0) (read names) where
  read : (some : List (List ℕ)) → (if nat_le 1 (length some) && true then Some names else None) ≡ cond (not (length some == 0)) (Some names) None
  read [] = refl
  read (name ∷ some) = rw (le-leb 1 (suc (length some)) (omega arith), eqb-suc-zero)

-- one more name is that of one more value
pub one_more_name : (items : List Data) (value : Data) (names : List (List ℕ)) (name : List ℕ) → AreNamesOf true items names → length names < max_event_types
    → type_name_in value ≡ Some name → AreNamesOf true (items ++ value ∷ []) (names ++ name ∷ [])
one_more_name items value names name are room is =
    let long = all_types-length items names are.0 in
    (all_types-append items value names name are.0 is, omega (arith, length-append items (value ∷ [])))

-- too many values are no few types
pub too_many_types : (items : List Data) (value : Data) (more : List Data) (names : List (List ℕ)) → AreNamesOf true items names → max_event_types ≤ length names
    → few_types ((items ++ value ∷ []) ++ more) ≡ None
too_many_types items value more names are full =
    let all = (items ++ value ∷ []) ++ more in
    let long = all_types-length items names are.0 in
    let over : max_event_types < length all = omega (arith, length-append (items ++ value ∷ []) more, length-append items (value ∷ [])) in
    rw (lt-leb (length all) max_event_types over, le-leb 1 (length all) (omega arith))

-- nor are values of which one has no name
pub one_without_name : (items : List Data) (value : Data) (more : List Data) → type_name_in value ≡ None → few_types ((items ++ value ∷ []) ++ more) ≡ None
one_without_name items value more none = rw append_assoc (few_types-none (items ++ value ∷ more) (all_types-none items value more none))

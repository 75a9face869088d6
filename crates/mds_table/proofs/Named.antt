-- States and type names that values of JSON name.
use Rattle.std.proofs.Common.{◌≡◌, ◌≢◌, ℕ, Bool, true, false, List, [], ◌∷◌, Option, Some, None, IfSome, IfNone, find, refl, subst}
use Rattle.std.specs.Str.{bytes_eq}
use Rattle.std.proofs.lemmas.Slice.Eq.{bytes_eq-Decides}
use Rattle.mds_table.specs.declared.state.State.{State}
use Rattle.mds_table.specs.declared.state.State.TheVariants.{Removed, Available, NonOperational, Reserved, OnTrip, Elsewhere, NonContactable, Missing, InDepot}
use Rattle.mds_table.specs.declared.state.TheConstants.State.{ALL}
use Rattle.mds_table.specs.State.{name_of}
use Rattle.mds_table.specs.Json.{state_of_name}

-- a state is found by its name
state_of_name-name_of : (state : State) → Some state ≡ state_of_name (name_of state)
state_of_name-name_of Removed = refl
state_of_name-name_of Available = refl
state_of_name-name_of NonOperational = refl
state_of_name-name_of Reserved = refl
state_of_name-name_of OnTrip = refl
state_of_name-name_of Elsewhere = refl
state_of_name-name_of NonContactable = refl
state_of_name-name_of Missing = refl
state_of_name-name_of InDepot = refl

-- two texts that differ
bytes_eq-false : (xs ys : List ℕ) → xs ≢ ys → bytes_eq xs ys ≡ false
bytes_eq-false xs ys differ = tested (bytes_eq xs ys) (bytes_eq-Decides xs ys).0 where
  tested : (b : Bool) → (b ≡ true → xs ≡ ys) → b ≡ false
  tested true same = absurd (differ (same refl))
  tested false same = refl

-- nothing passes a test that fails everywhere
find-none : {X : Type 0} (test : X → Bool) → ((x : X) → test x ≡ false) → (xs : List X) → None ≡ find test xs
find-none test fails [] = refl
find-none test fails (x ∷ xs) = rw (fails x) (find-none test fails xs)

-- the state of a name, or none
pub state_of_name-is : (found : Option State) (name : List ℕ) → IfSome found (λ state. name_of state ≡ name) → IfNone found ((state : State) → name_of state ≢ name)
    → found ≡ state_of_name name
state_of_name-is (Some state) name is none = subst (λ (text : List ℕ). Some state ≡ state_of_name text) is (state_of_name-name_of state)
state_of_name-is None name is none = find-none (λ state. bytes_eq (name_of state) name) (λ state. bytes_eq-false (name_of state) name (none state)) ALL

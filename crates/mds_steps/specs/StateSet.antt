-- Sets of states, as lists in the order of codes.
use Rattle.std.specs.Prelude.{ℕ, ◌^◌, filter, sum_by, ◌<◌, ◌↔◌, ◌⊎◌}
use Rattle.std.specs.Prelude.{◌++◌, List, [], ◌∷◌, Contains, codes}
use Rattle.std.specs.List.{AllPairs, flat_map}
use Rattle.mds_table.specs.declared.state.State.{State}
use Rattle.mds_table.specs.declared.state.State.TheVariants.{Removed, Available, NonOperational}
use Rattle.mds_table.specs.declared.state.State.TheVariants.{Reserved, OnTrip, Elsewhere}
use Rattle.mds_table.specs.declared.state.State.TheVariants.{NonContactable, Missing, InDepot}
use Rattle.mds_table.specs.State.{code_of, name_of}
use Rattle.mds_table.specs.Mask.{has_bit}

-- every state, in the order of codes
abbrev pub all_states : List State
all_states =
    Removed ∷ Available ∷ NonOperational ∷ Reserved ∷ OnTrip
    ∷ Elsewhere ∷ NonContactable ∷ Missing ∷ InDepot ∷ []

-- the states whose bits a mask has, in the order of codes
unfoldable pub states_in : ℕ → List State
states_in mask = filter (has_bit mask) all_states

-- the mask of states: the sum of their bits
abbrev pub mask_of : List State → ℕ
mask_of states = sum_by (λ state. 2 ^ code_of state) states

-- the names of states, with a comma between
abbrev pub names_of : List State → List ℕ
names_of [] = []
names_of (first ∷ rest) = name_of first ++ flat_map (λ state. codes "," ++ name_of state) rest

-- each state has a lower code than those after it, so each stands once
abbrev pub AreInCodeOrder : List State → Type 0
AreInCodeOrder states = AllPairs (λ before after. code_of before < code_of after) states

-- a set has the states that are in one of two sets, or in both
abbrev pub IsUnion : List State → List State → List State → Type 0
IsUnion one other union =
    (state : State) → Contains union state ↔ (Contains one state ⊎ Contains other state)

-- a set has the states that are in both of two sets
abbrev pub AreCommon : List State → List State → List State → Type 0
AreCommon one other common =
    (state : State) → Contains common state ↔ (Contains one state × Contains other state)

-- the flags of the states, each with its bit
abbrev pub flags_of_states : List (List ℕ × ℕ)
flags_of_states =
    (codes "REMOVED", 1) ∷ (codes "AVAILABLE", 2) ∷ (codes "NON_OPERATIONAL", 4)
    ∷ (codes "RESERVED", 8) ∷ (codes "ON_TRIP", 16) ∷ (codes "ELSEWHERE", 32)
    ∷ (codes "NON_CONTACTABLE", 64) ∷ (codes "MISSING", 128) ∷ (codes "IN_DEPOT", 256) ∷ []

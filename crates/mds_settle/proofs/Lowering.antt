-- A bound that is lowered note by note.
use Rattle.std.proofs.Common.{◌≡◌, ◌⊎◌, inl, inr, ℕ, ◌+◌, ◌<◌, List, length, get_or, Option, Some, None, sym, subst, below_more}
use Rattle.std.specs.Option.{MatchOption}
use Rattle.std.specs.List.{Any}
use Rattle.std.proofs.lemmas.List.{get_or_read}
use Rattle.mds_settle.specs.Bounds.{IsBelow, IsLowered}

-- the fact holds of each element before this place
abbrev pub EachOf : {X : Type 0} → ℕ → (X → Type 0) → List X → Type 0
EachOf {X} i P xs = (k : ℕ) (d : X) → k < i → P (get_or xs k d)

-- of one element more
pub each_more : {X : Type 0} (P : X → Type 0) (xs : List X) (i : ℕ) (x : X) → i < length xs → x ≡ get_or xs i x
    → EachOf i P xs → P x → EachOf (i + 1) P xs
each_more {X} P xs i x within is each here k d less =
    below_more (λ j. (e : X) → P (get_or xs j e)) i (λ j before e. each j e before) (λ e. subst P (get_or_read xs i x within is e) here) k less d

-- a fault is another one
pub fault_map : (bound : Option ℕ) (P Q : ℕ → Type 0) → ((place : ℕ) → P place → Q place) → MatchOption bound ⊥ P → MatchOption bound ⊥ Q
fault_map None P Q f fault = fault
fault_map (Some place) P Q f fault = f place fault

-- a bound is lowered in two steps, where the second fault is one of the first kind
pub lowered_twice : (Fine : Option ℕ → Type 0) (Fault : ℕ → Type 0) (FineHere : Option ℕ → Type 0) (FaultHere : ℕ → Type 0) (old middle new : Option ℕ)
    → IsLowered Fine Fault old middle → IsLowered FineHere FaultHere middle new → ((place : ℕ) → FaultHere place → Fault place)
    → (All : Option ℕ → Type 0) → All new → IsLowered All Fault old new
lowered_twice Fine Fault FineHere FaultHere old middle new first second wider All fine = record {
  fine = fine;
  lower = λ place below. first.lower place (second.lower place below);
  fault = by_step second.fault;
} where
  by_step : (new ≡ middle) ⊎ MatchOption new ⊥ FaultHere → (new ≡ old) ⊎ MatchOption new ⊥ Fault
  by_step (inl same) = let P : Option ℕ → Type 0 = λ bound. (bound ≡ old) ⊎ MatchOption bound ⊥ Fault in subst P (sym same) first.fault
  by_step (inr fault) = inr (fault_map new FaultHere Fault wider fault)

-- a bound that is lowered by one element more
pub lowered_each : {X : Type 0} (P : Option ℕ → X → Type 0) (F : ℕ → X → Type 0) (xs : List X) (i : ℕ) (x : X) (old middle new : Option ℕ)
    → ((a b : Option ℕ) (y : X) → ((place : ℕ) → IsBelow place b → IsBelow place a) → P a y → P b y)
    → i < length xs → x ≡ get_or xs i x
    → IsLowered (λ bound. EachOf i (P bound) xs) (λ place. Any (F place) xs) old middle
    → IsLowered (λ bound. P bound x) (λ place. F place x) middle new
    → IsLowered (λ bound. EachOf (i + 1) (P bound) xs) (λ place. Any (F place) xs) old new
lowered_each {X} P F xs i x old middle new weaker within is first second =
    lowered_twice (λ bound. EachOf i (P bound) xs) (λ place. Any (F place) xs) (λ bound. P bound x) (λ place. F place x) old middle new first second
    (λ place fault. (i, x, within, sym is, fault))
    (λ bound. EachOf (i + 1) (P bound) xs)
    (each_more (P new) xs i x within is (λ k d before. weaker middle new (get_or xs k d) second.lower (first.fine k d before)) second.fine)

-- The order of one caller's notes.
use Rattle.std.proofs.Common.{◌≡◌, ◌⊎◌, inl, inr, ℕ, ◌+◌, ◌<◌, ◌≤◌, ◌∙◌, List, length, get_or, Option, sym, subst, below_more, arith, length-take-le, get_or-take}
use Rattle.std.specs.Prelude.{slice_get, Some}
use Rattle.std.proofs.lemmas.List.{get_or_read}
use Rattle.std.proofs.lemmas.Option.{slice_get-get_or}
use Rattle.mds_settle.specs.declared.note.Note.{Note}
use Rattle.mds_settle.specs.Notes.{IsAt}
use Rattle.mds_settle.specs.Settled.{least_after}
use Rattle.mds_settle.specs.Faults.{HasLate}
use Rattle.mds_settle.specs.Bounds.{IsLowered, IsPromptBelow, IsInOrderBelow}
use Rattle.mds_settle.proofs.Lowering.{EachOf, each_more, lowered_twice}

-- the relation holds of each two elements before this place
abbrev pub PairsOf : {X : Type 0} → ℕ → (X → X → Type 0) → List X → Type 0
PairsOf {X} i R xs = (a b : ℕ) (d : X) → a < b → b < i → R (get_or xs a d) (get_or xs b d)

-- the fact holds of some element before this place
abbrev pub SomeOf : {X : Type 0} → ℕ → (X → Type 0) → List X → Type 0
SomeOf {X} i P xs = (k : ℕ) × (x : X) × (k < i) × (get_or xs k x ≡ x) × P x

-- the least place that a later note may have is at least that which this note asks for, if it is of the shard
abbrev pub IsAskedBy : ℕ → ℕ → Note → Type 0
IsAskedBy shard next note = note.shard ≡ shard → least_after note ≤ next

-- the least place that a later note may have is that which this note, of the shard, asks for
abbrev pub IsReachedBy : ℕ → ℕ → Note → Type 0
IsReachedBy shard next note = (note.shard ≡ shard) × (next ≡ least_after note)

-- the order of the notes before this place, and the least place that the next one may have
pub record IsOrderedTo (shard i : ℕ) (notes : List Note) (next : ℕ) (old bound : Option ℕ) : Type 0 where
  pub lowered : IsLowered (λ r. PairsOf i (IsInOrderBelow shard r) notes) (λ place. HasLate shard place notes) old bound
  pub most : EachOf i (IsAskedBy shard next) notes
  pub reached : (next ≡ 0) ⊎ SomeOf i (IsReachedBy shard next) notes

-- pairs with one element more
pairs_more : {X : Type 0} (R : X → X → Type 0) (xs : List X) (i : ℕ) (x : X) → i < length xs → x ≡ get_or xs i x
    → PairsOf i R xs → EachOf i (λ y. R y x) xs → PairsOf (i + 1) R xs
pairs_more {X} R xs i x within is pairs here a b d less before =
    below_more (λ j. (c : ℕ) (e : X) → c < j → R (get_or xs c e) (get_or xs j e)) i (λ j below c e under. pairs c j e under below)
    (λ c e under. let P : X → Type 0 = λ y. R (get_or xs c e) y in subst P (get_or_read xs i x within is e) (here c e under)) b before a d less

-- a note with a place before the least that it may have is late
late_here : (shard i : ℕ) (notes : List Note) (next : ℕ) (note : Note) (place : ℕ) → i < length notes → note ≡ get_or notes i note
    → (next ≡ 0) ⊎ SomeOf i (IsReachedBy shard next) notes → IsAt shard place note × (place < next) → HasLate shard place notes
late_here shard i notes next note place within is (inl none) fault = let early = fault.1 in absurd (omega arith)
late_here shard i notes next note place within is (inr (k, earlier, before, stands, asked)) fault =
    let get : slice_get notes i ≡ Some note = let P : Note → Type 0 = λ n. slice_get notes i ≡ Some n in subst P (sym is) (slice_get-get_or notes i note within) in
    let early = fault.1 in
    let asks = asked.1 in
    let count = length-take-le i notes (omega arith) in
    (i, note, get, fault.0, (k, earlier, omega arith, get_or-take i notes k earlier before ∙ stands, (asked.0, omega arith)))

-- what the notes before this place reach is reached by those before the next one
reached_more : (shard i : ℕ) (notes : List Note) (next later : ℕ) (note : Note) → note ≡ get_or notes i note → (next ≡ 0) ⊎ SomeOf i (IsReachedBy shard next) notes
    → (later ≡ next) ⊎ IsReachedBy shard later note → (later ≡ 0) ⊎ SomeOf (i + 1) (IsReachedBy shard later) notes
reached_more shard i notes next later note is (inl none) (inl same) = inl (same ∙ none)
reached_more shard i notes next later note is (inr (k, earlier, before, stands, asked)) (inl same) = inr (k, earlier, omega arith, stands, (asked.0, same ∙ asked.1))
reached_more shard i notes next later note is reached (inr here) = inr (i, note, omega arith, sym is, here)

-- the order with one note more
pub ordered_more : (shard i : ℕ) (notes : List Note) (next later : ℕ) (note : Note) (old middle new : Option ℕ) → i < length notes → note ≡ get_or notes i note
    → IsOrderedTo shard i notes next old middle
    → IsLowered (λ r. IsPromptBelow shard next r note) (λ place. IsAt shard place note × (place < next)) middle new
    → next ≤ later → IsAskedBy shard later note → (later ≡ next) ⊎ IsReachedBy shard later note
    → IsOrderedTo shard (i + 1) notes later old new
ordered_more shard i notes next later note old middle new within is before step kept asked one = record {
  lowered = lowered_twice (λ r. PairsOf i (IsInOrderBelow shard r) notes) (λ place. HasLate shard place notes) (λ r. IsPromptBelow shard next r note)
      (λ place. IsAt shard place note × (place < next)) old middle new before.lowered step (λ place fault. late_here shard i notes next note place within is before.reached fault)
      (λ r. PairsOf (i + 1) (IsInOrderBelow shard r) notes)
      (pairs_more (IsInOrderBelow shard new) notes i note within is
      (λ a b d less under here there below. before.lowered.fine a b d less under here there (step.lower (get_or notes b d).reply.place below))
      (λ a d under here there below.
      let most = before.most a d under here in
      let prompt = step.fine there below in
      omega arith));
  most = each_more (IsAskedBy shard later) notes i note within is (λ k d under here. let most = before.most k d under here in omega arith) asked;
  reached = reached_more shard i notes next later note is before.reached one;
}

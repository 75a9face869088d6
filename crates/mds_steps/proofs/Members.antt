-- Which states are in a mask.
use Rattle.std.proofs.Common.{rules, ◌≡◌, ◌↔◌, ◌⊎◌, inl, inr, ℕ, zero, suc, ◌+◌, ◌-◌, ◌^◌, ◌<◌, ◌≤◌, ◌==◌, Bool, true, false, List, [], ◌∷◌, ◌++◌, length, get_or, take, filter, Contains, refl, sym, ◌∙◌, ap, arith}
use Rattle.std.proofs.lemmas.List.{append-nil, length-take}
use Rattle.std.proofs.lemmas.List.Sums.{length-filter, count_by-le-length}
use Rattle.std.specs.Int.{bit_at}
use Rattle.std.specs.Int.RustNames.{bit_and, bit_or}
use Rattle.std.specs.List.{All, AllPairs}
use Rattle.std.proofs.lemmas.Bool.{or_cases, or_left, or_right, cond_both, cond-true, cond-false, eqb-true, eq-eqb}
use Rattle.std.proofs.lemmas.Nat.Bits.{bit_at_and, bit_at_ones, bit_at-lt}
use Rattle.std.proofs.lemmas.List.Elements.{All-contains, All-filter, filter_passes, filter_agree, filter_more}
use Rattle.mds_table.specs.declared.state.State.{State}
use Rattle.mds_table.specs.declared.state.State.TheVariants.{Removed, Available, NonOperational, Reserved, OnTrip, Elsewhere, NonContactable, Missing, InDepot}
use Rattle.mds_table.specs.declared.state.TheConstants.State.{COUNT}
use Rattle.mds_table.specs.State.{code_of}
use Rattle.mds_table.proofs.Rows.{code_below}
use Rattle.mds_table.proofs.Adding.{among_all}
use Rattle.mds_table.proofs.Bits.{has_bit-or}
use Rattle.mds_table.specs.Mask.{has_bit}
use Rattle.mds_steps.specs.StateSet.{all_states, states_in, mask_of, AreInCodeOrder}
use Rattle.mds_steps.specs.Masks.{mask_given_back}

module _ {X : Type 0} (test : X → Bool) where
  -- what passes a filter stays
  Contains-filter : (xs : List X) (x : X) → Contains xs x → test x ≡ true → Contains (filter test xs) x
  Contains-filter [] x found passes = found
  Contains-filter (y ∷ ys) x (zero, within, is) passes =
      let kept : test y ≡ true = ap test is ∙ passes in rw kept (0, omega arith, is)
  Contains-filter (y ∷ ys) x (suc k, within, is) passes =
      let later = Contains-filter ys x (k, omega (arith, within), is) passes in
      cond_both (test y) (y ∷ filter test ys) (filter test ys) (λ zs. Contains zs x) (λ _. (suc later.0, omega (arith, later.1), later.2)) (λ _. later)

  module _ (R : X → X → Type 0) where
    all_pairs_cons : (x : X) (xs : List X) → All (R x) xs → AllPairs R xs → AllPairs R (x ∷ xs)
    all_pairs_cons x xs first rest i zero d less within = absurd (omega (arith, less))
    all_pairs_cons x xs first rest zero (suc j) d less within = first j d (omega (arith, within))
    all_pairs_cons x xs first rest (suc i) (suc j) d less within = rest i j d (omega (arith, less)) (omega (arith, within))

    -- what passes a filter stays in order
    all_pairs_filter : (xs : List X) → AllPairs R xs → AllPairs R (filter test xs)
    all_pairs_filter [] pairs = pairs
    all_pairs_filter (x ∷ xs) pairs =
        let rest = all_pairs_filter xs (λ i j d less within. pairs (suc i) (suc j) d (omega (arith, less)) (omega (arith, within))) in
        let first : All (R x) xs = λ k d within. pairs 0 (suc k) d (omega arith) (omega (arith, within)) in
        cond_both (test x) (x ∷ filter test xs) (filter test xs) (AllPairs R) (λ _. all_pairs_cons x (filter test xs) (All-filter test (R x) xs first) rest) (λ _. rest)

-- a state is in a mask where its bit is set
pub members : (mask : ℕ) (state : State) → (has_bit mask state ≡ true) ↔ Contains (states_in mask) state
unfolding states_in
members mask state = (
  λ set. Contains-filter (has_bit mask) all_states state (among_all state) set,
  λ found. All-contains (λ one. has_bit mask one ≡ true) _ state (filter_passes (has_bit mask) all_states) found,
)

-- the states in a mask stand in the order of their codes
pub states_ordered : (mask : ℕ) → AreInCodeOrder (states_in mask)
unfolding states_in
states_ordered mask = all_pairs_filter (has_bit mask) (λ before after. code_of before < code_of after) all_states (search rules)

-- the bits above those of states don't matter
pub known_states : (mask : ℕ) → states_in (bit_and mask (2 ^ COUNT - 1)) ≡ states_in mask
unfolding states_in has_bit
known_states mask = filter_agree _ _ (λ state. ap (λ bit. bit == 1) (known state)) all_states where
  known : (state : State) → bit_at (bit_and mask (2 ^ COUNT - 1)) (code_of state) ≡ bit_at mask (code_of state)
  known state = omega (arith, bit_at_and mask (2 ^ COUNT - 1) (code_of state), bit_at_ones COUNT (code_of state) (code_below state), bit_at-lt mask (code_of state))

-- one bit is that of one state
pub one_state : (state : State) → states_in (2 ^ code_of state) ≡ state ∷ []
unfolding states_in has_bit
one_state Removed = refl
one_state Available = refl
one_state NonOperational = refl
one_state Reserved = refl
one_state OnTrip = refl
one_state Elsewhere = refl
one_state NonContactable = refl
one_state Missing = refl
one_state InDepot = refl

pub none_in_mask : (mask : ℕ) → mask < 2 ^ COUNT → states_in mask ≡ [] → mask ≡ 0
none_in_mask mask fits none = sym (mask_given_back mask fits) ∙ ap mask_of none

module _ (a b : ℕ) (state : State) where
  -- the states in one of two masks, or in both
  pub union_states : Contains (states_in (bit_or a b)) state ↔ (Contains (states_in a) state ⊎ Contains (states_in b) state)
  union_states = (
    λ found. elim (or_cases _ _ (sym (has_bit-or a b state) ∙ (members _ state).1 found)) [ inl one ↦ inl ((members a state).0 one) | inr other ↦ inr ((members b state).0 other) ],
    λ either. (members _ state).0 (has_bit-or a b state ∙ elim either [
      | inl one ↦ or_left _ _ ((members a state).1 one)
      | inr other ↦ or_right _ _ ((members b state).1 other)
    ]),
  )

  has_both : (has_bit (bit_and a b) state ≡ true) ↔ ((has_bit a state ≡ true) × (has_bit b state ≡ true))
  unfolding has_bit
  has_both =
      let both = bit_at_and a b (code_of state) in (
        λ set. let one = eqb-true _ _ set in
            (eq-eqb _ _ (omega (arith, one, both, bit_at-lt a (code_of state))), eq-eqb _ _ (omega (arith, one, both, bit_at-lt b (code_of state)))),
        λ sets. eq-eqb _ _ (omega (arith, both, eqb-true _ _ sets.0, eqb-true _ _ sets.1)),
      )

  -- the states in both of two masks
  pub common_states : Contains (states_in (bit_and a b)) state ↔ (Contains (states_in a) state × Contains (states_in b) state)
  common_states = (
    λ found. let sets = has_both.0 ((members _ state).1 found) in ((members a state).0 sets.0, (members b state).0 sets.1),
    λ both. (members _ state).0 (has_both.1 ((members a state).1 both.0, (members b state).1 both.1)),
  )

-- one state more is gone over
pub filter_yes : (mask i : ℕ) (state : State) → i < COUNT → has_bit mask (get_or all_states i state) ≡ true
    → filter (has_bit mask) (take (i + 1) all_states) ≡ filter (has_bit mask) (take i all_states) ++ get_or all_states i state ∷ []
filter_yes mask i state within passes = filter_more (has_bit mask) all_states i state within ∙ ap (λ one. filter (has_bit mask) (take i all_states) ++ one) (cond-true _ _ _ passes)

pub filter_no : (mask i : ℕ) (state : State) → i < COUNT → has_bit mask (get_or all_states i state) ≡ false
    → filter (has_bit mask) (take (i + 1) all_states) ≡ filter (has_bit mask) (take i all_states)
filter_no mask i state within fails =
    filter_more (has_bit mask) all_states i state within ∙ ap (λ one. filter (has_bit mask) (take i all_states) ++ one) (cond-false _ _ _ fails) ∙ append-nil _

-- no more states stand in the list than are gone over
pub filter_few : (mask i : ℕ) → length (filter (has_bit mask) (take i all_states)) ≤ i
filter_few mask i = omega (arith, length-filter (has_bit mask) (take i all_states), count_by-le-length (has_bit mask) (take i all_states), length-take i all_states)

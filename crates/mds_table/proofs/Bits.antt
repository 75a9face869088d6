-- The bits of masks, and masks that grow by a state.
use Rattle.std.proofs.Common.{◌≡◌, ◌↔◌, ◌^◌, ◌<◌, ◌==◌, ◌||◌, ℕ, zero, suc, max, true, false, List, [], ◌∷◌, ◌++◌, Contains, slice_set, length, replicate, bit_or, refl, sym, ◌∙◌, ap, subst, ⊎_elim, arith}
use Rattle.std.specs.Int.{bit_at}
use Rattle.std.proofs.lemmas.Bool.{cases_eq, or_cases, or_left, or_right}
use Rattle.std.proofs.lemmas.List.{get_or-replicate, get_or-set_same, get_or-set_other}
use Rattle.std.proofs.lemmas.List.Elements.{Contains-append_left, Contains-push, Contains-push_cases}
use Rattle.std.proofs.lemmas.Nat.Bits.{bit_at-lt, bit_at-zero, bit_at_or, bit_at-pow_same, bit_at-pow_other}
use Rattle.mds_table.specs.declared.state.State.{State}
use Rattle.mds_table.specs.declared.state.TheConstants.State.{COUNT}
use Rattle.mds_table.specs.declared.row.Row.{Row}
use Rattle.mds_table.specs.State.{code_of}
use Rattle.mds_table.specs.Row.{row_of}
use Rattle.mds_table.specs.Mask.{has_bit, mask_from, IsMask}
use Rattle.mds_table.proofs.Rows.{code_of_injective, code_below}

-- the empty mask has no state
pub has_bit-zero : (state : State) → has_bit 0 state ≡ false
unfolding has_bit
has_bit-zero state = ap (λ bit. bit == 1) (bit_at-zero (code_of state))

-- what two masks have together
pub has_bit-or : (a b : ℕ) (state : State) → has_bit (bit_or a b) state ≡ (has_bit a state || has_bit b state)
unfolding has_bit
has_bit-or a b state =
    ap (λ bit. bit == 1) (bit_at_or a b (code_of state))
    ∙ cases (bit_at a (code_of state)) (bit_at b (code_of state)) (bit_at-lt a (code_of state)) (bit_at-lt b (code_of state)) where
      cases : (m n : ℕ) → m < 2 → n < 2 → (max m n == 1) ≡ ((m == 1) || (n == 1))
      cases zero zero low high = refl
      cases zero (suc zero) low high = refl
      cases (suc zero) zero low high = refl
      cases (suc zero) (suc zero) low high = refl
      cases (suc (suc m)) n low high = absurd (omega arith)
      cases m (suc (suc n)) low high = absurd (omega arith)

-- a state's own mask has it
pub has_bit-same : (state : State) → has_bit (2 ^ code_of state) state ≡ true
unfolding has_bit
has_bit-same state = ap (λ bit. bit == 1) (bit_at-pow_same (code_of state))

-- and no other
pub has_bit-one : (state other : State) → has_bit (2 ^ code_of state) other ≡ true → state ≡ other
unfolding has_bit
has_bit-one state other has =
    code_of_injective state other (⊎_elim
    (λ same. sym same)
    (λ apart. let none = ap (λ bit. bit == 1) (bit_at-pow_other (code_of state) (code_of other) apart) in cc)
    (cases_eq (code_of other) (code_of state)))

-- the mask has the states of a list that rows of the type lead to
abbrev pub IsMaskAmong : List State → List Row → List ℕ → State → ℕ → Type 0
IsMaskAmong states rows kind from mask = (to : State) → (has_bit mask to ≡ true) ↔ (Contains states to × Contains rows (row_of from kind to))

-- a state more that rows lead to
pub mask_more : (states : List State) (rows : List Row) (kind : List ℕ) (from state : State) (mask : ℕ) → Contains rows (row_of from kind state)
    → IsMaskAmong states rows kind from mask → IsMaskAmong (states ++ state ∷ []) rows kind from (bit_or mask (2 ^ code_of state))
mask_more states rows kind from state mask there is to = (
  λ has. ⊎_elim
      (λ old. (Contains-append_left states (state ∷ []) to ((is to).0 old).0, ((is to).0 old).1))
      (λ new. subst (λ s. Contains (states ++ state ∷ []) s × Contains rows (row_of from kind s)) (has_bit-one state to new) (Contains-push states state, there))
      (or_cases (has_bit mask to) (has_bit (2 ^ code_of state) to) (sym (has_bit-or mask (2 ^ code_of state) to) ∙ has)),
  λ both. has_bit-or mask (2 ^ code_of state) to ∙ ⊎_elim
      (λ old. or_left (has_bit mask to) (has_bit (2 ^ code_of state) to) ((is to).1 (old, both.1)))
      (λ new. or_right (has_bit mask to) (has_bit (2 ^ code_of state) to) (subst (λ s. has_bit (2 ^ code_of state) s ≡ true) new (has_bit-same state)))
      (Contains-push_cases states state to both.0),
)

-- a state more that no row leads to
pub mask_passed : (states : List State) (rows : List Row) (kind : List ℕ) (from state : State) (mask : ℕ) → (Contains rows (row_of from kind state) → ⊥)
    → IsMaskAmong states rows kind from mask → IsMaskAmong (states ++ state ∷ []) rows kind from mask
mask_passed states rows kind from state mask none is to = (
  λ has. (Contains-append_left states (state ∷ []) to ((is to).0 has).0, ((is to).0 has).1),
  λ both. ⊎_elim
      (λ old. (is to).1 (old, both.1))
      (λ new. absurd (none (subst (λ s. Contains rows (row_of from kind s)) (sym new) both.1)))
      (Contains-push_cases states state to both.0),
)

-- the mask of a state more
pub masks_more : (states : List State) (rows : List Row) (kind : List ℕ) (state : State) (mask : ℕ) (masks : List ℕ) → length masks ≡ COUNT
    → IsMask rows kind state mask → ((from : State) → Contains states from → IsMask rows kind from (mask_from masks from))
    → (from : State) → Contains (states ++ state ∷ []) from → IsMask rows kind from (mask_from (slice_set masks (code_of state) mask) from)
masks_more states rows kind state mask masks full here so_far from there = ⊎_elim
    (λ same.
    let is : state ≡ from = code_of_injective state from (sym same) in
    let put : mask_from (slice_set masks (code_of state) mask) state ≡ mask = get_or-set_same masks (code_of state) mask 0 (omega (arith, code_below state)) in
    subst (λ s. IsMask rows kind s (mask_from (slice_set masks (code_of state) mask) s)) is (subst (IsMask rows kind state) (sym put) here))
    (λ apart.
    let kept : mask_from (slice_set masks (code_of state) mask) from ≡ mask_from masks from = get_or-set_other masks (code_of state) (code_of from) mask 0 apart in
    subst (IsMask rows kind from) (sym kept) (⊎_elim
    (so_far from)
    (λ is. absurd (apart (ap code_of (sym is))))
    (Contains-push_cases states state from there)))
    (cases_eq (code_of from) (code_of state))

-- masks of zeros have no state
pub has_bit-zeros : (from to : State) → has_bit (mask_from (replicate COUNT 0) from) to ≡ false
has_bit-zeros from to = ap (λ mask. has_bit mask to) (get_or-replicate COUNT (code_of from) 0 0 (code_below from)) ∙ has_bit-zero to

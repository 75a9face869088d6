-- A replay has one report.
use Rattle.std.proofs.Common.{◌≡◌, ◌⊎◌, inl, inr, zero, suc, ◌<◌, List, [], ◌∷◌, Contains, count_by, refl, sym, ◌∙◌, ap, subst, arith}
use Rattle.std.specs.List.{AllZip}
use Rattle.mds_table.specs.declared.state.State.{State}
use Rattle.mds_table.specs.Tables.{Tables}
use Rattle.mds_table.specs.State.{code_of}
use Rattle.mds_steps.specs.StateSet.{AreInCodeOrder}
use Rattle.mds_core.specs.declared.key.Key.{Key}
use Rattle.mds_core.specs.Reported.{Reported}
use Rattle.mds_batch.specs.declared.item.EventItem.{EventItem}
use Rattle.mds_trace.specs.declared.report.Opening.{Opening}
use Rattle.mds_trace.specs.declared.report.Opening.TheVariants.{Removed, Any}
use Rattle.mds_trace.specs.declared.report.VehicleEnd.{VehicleEnd}
use Rattle.mds_trace.specs.declared.report.Report.{Report}
use Rattle.mds_trace.specs.Verdict.{accepts}
use Rattle.mds_trace.specs.Items.{events_of, vehicles_of}
use Rattle.mds_trace.specs.Replay.{accepted_of, prior_of, AreOpeningsOf, IsEnd, IsReport}
use Rattle.mds_trace.specs.ReplayLaws.{AreSameReport}
use Rattle.mds_trace.proofs.OneVerdict.{one_list}

-- a state of a list is its first, or one of the others
first_or_later : (first : State) (rest : List State) (state : State) → Contains (first ∷ rest) state → (first ≡ state) ⊎ Contains rest state
first_or_later first rest state (zero, within, is) = inl is
first_or_later first rest state (suc k, within, is) = inr (k, omega (arith, within), is)

later : (first : State) (rest : List State) (state : State) → Contains rest state → Contains (first ∷ rest) state
later first rest state (k, within, is) = (suc k, omega (arith, within), is)

-- in code order the first state is before the others, which are in code order
before_others : (first : State) (rest : List State) → AreInCodeOrder (first ∷ rest) → (state : State) → Contains rest state → code_of first < code_of state
before_others first rest order state (k, within, is) =
    subst (λ other. code_of first < code_of other) is (order zero (suc k) state (omega arith) (omega (arith, within)))

others_ordered : (first : State) (rest : List State) → AreInCodeOrder (first ∷ rest) → AreInCodeOrder rest
others_ordered first rest order = λ i j d less within. order (suc i) (suc j) d (omega (arith, less)) (omega (arith, within))

-- sets in code order with the same states are one list
same_set : (a b : List State) → AreInCodeOrder a → AreInCodeOrder b → ((state : State) → Contains a state → Contains b state)
    → ((state : State) → Contains b state → Contains a state) → a ≡ b
same_set [] [] order_a order_b to from = refl
same_set [] (y ∷ b) order_a order_b to from = let found = from y (zero, omega arith, refl) in absurd (omega (arith, found.1))
same_set (x ∷ a) [] order_a order_b to from = let found = to x (zero, omega arith, refl) in absurd (omega (arith, found.1))
same_set (x ∷ a) (y ∷ b) order_a order_b to from =
    λ i. first i ∷ same_set a b (others_ordered x a order_a) (others_ordered y b order_b) to_rest from_rest i where
      first : x ≡ y
      first = elim (first_or_later y b x (to x (zero, omega arith, refl))) [
        | inl same ↦ sym same
        | inr behind ↦ elim (first_or_later x a y (from y (zero, omega arith, refl))) [
          | inl same ↦ same
          | inr other ↦ absurd (omega (arith, before_others y b order_b x behind, before_others x a order_a y other))
        ]
      ]

      to_rest : (state : State) → Contains a state → Contains b state
      to_rest state found = elim (first_or_later y b state (to state (later x a state found))) [
        | inl same ↦ absurd (omega (arith, before_others x a order_a state found, ap code_of (first ∙ same)))
        | inr behind ↦ behind
      ]

      from_rest : (state : State) → Contains b state → Contains a state
      from_rest state found = elim (first_or_later x a state (from state (later y b state found))) [
        | inl same ↦ absurd (omega (arith, before_others y b order_b state found, ap code_of (sym first ∙ same)))
        | inr behind ↦ behind
      ]

one_set : (opening : Opening) (tables : Tables) (prior : List Reported) (a b : List State) → AreOpeningsOf opening tables prior a → AreOpeningsOf opening tables prior b → a ≡ b
one_set Removed tables prior a b are_a are_b = are_a ∙ sym are_b
one_set Any tables [] a b are_a are_b = are_a ∙ sym are_b
one_set Any tables (first ∷ others) a b are_a are_b =
    same_set a b are_a.0 are_b.0 (λ state found. (are_b.1 state).1 ((are_a.1 state).0 found)) (λ state found. (are_a.1 state).1 ((are_b.1 state).0 found))

one_end : (opening : Opening) (tables : Tables) (accepted : List Reported) (key : Key) (a b : VehicleEnd) → IsEnd opening tables accepted key a → IsEnd opening tables accepted key b → a ≡ b
one_end opening tables accepted key a b is_a is_b =
    let key_is = is_a.key_is ∙ sym is_b.key_is in
    let openings = one_set opening tables (prior_of key accepted) a.openings b.openings is_a.openings is_b.openings in
    let standing = is_a.standing ∙ sym is_b.standing in
    λ i. record { key = key_is i; openings = openings i; standing = standing i }

one_list_of_ends : (opening : Opening) (tables : Tables) (accepted : List Reported) (keys : List Key) (a b : List VehicleEnd) → AllZip (IsEnd opening tables accepted) keys a
    → AllZip (IsEnd opening tables accepted) keys b → a ≡ b
one_list_of_ends opening tables accepted [] [] [] are_a are_b = refl
one_list_of_ends opening tables accepted [] (a ∷ rest) b are_a are_b = absurd are_a
one_list_of_ends opening tables accepted [] [] (b ∷ others) are_a are_b = absurd are_b
one_list_of_ends opening tables accepted (key ∷ keys) [] b are_a are_b = absurd are_a
one_list_of_ends opening tables accepted (key ∷ keys) (a ∷ rest) [] are_a are_b = absurd are_b
one_list_of_ends opening tables accepted (key ∷ keys) (a ∷ rest) (b ∷ others) are_a are_b =
    let end = one_end opening tables accepted key a b are_a.0 are_b.0 in
    let ends = one_list_of_ends opening tables accepted keys rest others are_a.1 are_b.1 in
    λ i. end i ∷ ends i

pub one_report : (opening : Opening) (tables : Tables) (items : List EventItem) (a b : Report) → IsReport opening tables items a → IsReport opening tables items b → AreSameReport a b
one_report opening tables items a b is_a is_b =
    let lines = one_list opening tables items a.lines.items b.lines.items is_a.lines is_b.lines in
    let accepted = is_a.accepted ∙ ap (count_by accepts) lines ∙ sym is_b.accepted in
    let accepted_events = ap (accepted_of items) lines in
    record {
      lines = lines;
      vehicles = one_list_of_ends opening tables (accepted_of items a.lines.items) (vehicles_of (events_of items)) a.vehicles.items b.vehicles.items is_a.vehicles
          (subst (λ events. AllZip (IsEnd opening tables events) (vehicles_of (events_of items)) b.vehicles.items) (sym accepted_events) is_b.vehicles);
      accepted = accepted;
      refused = omega (arith, accepted, is_a.refused, is_b.refused);
    }

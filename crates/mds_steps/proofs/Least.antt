-- The least chain, one state after the other.
use Rattle.std.proofs.Common.{◌≡◌, ◌↔◌, ◌<◌, slice_get, zero, suc, length-append, ◌≤◌, inl, inr, ℕ, ◌+◌, List, [], ◌∷◌, ◌++◌, append_assoc, length, get_or, drop, Contains, Option, Some, None, IsSome, refl, sym, subst, ◌∙◌, ap, arith}
use Rattle.std.proofs.lemmas.Bool.{cases_lt, cases_order}
use Rattle.std.proofs.lemmas.List.{drop_more, get_or_append_left, get_or_push}
use Rattle.mds_table.specs.declared.state.State.{State}
use Rattle.mds_table.specs.declared.row.Row.{Row}
use Rattle.mds_table.specs.Row.{row_of}
use Rattle.mds_table.specs.State.{code_of}
use Rattle.mds_table.specs.Chain.{IsChain, Leads}
use Rattle.mds_table.proofs.Rows.{code_of_injective}
use Rattle.mds_steps.specs.StateSet.{AreInCodeOrder, AreCommon}
use Rattle.mds_steps.proofs.Sets.{none_in_empty}
use Rattle.mds_steps.specs.Opening.{AreOpenings}
use Rattle.mds_steps.specs.LeastChain.{IsNotAfter, IsLeastChain, IsLeastNext}

-- each of these sets has the openings of as many of the last types as there are sets before it
abbrev pub HasOpenings : List Row → List (List ℕ) → State → List (List State) → Type 0
HasOpenings rows kinds reported sets = (at n : ℕ) (d : List State) → n < length sets → at + n ≡ length kinds → AreOpenings rows (drop at kinds) reported (get_or sets n d)

module _ (rows : List Row) where
  -- a chain begins with the state held
  pub begins : (held : State) (kinds : List (List ℕ)) (reported : State) (chain : List State) → IsChain rows held kinds reported chain
      → (rest : List State) × (chain ≡ held ∷ rest)
  begins held [] reported chain is = ([], is.0)
  begins held (kind ∷ kinds) reported chain is = (is.1, is.2)

  -- chains from a state of a lower code stand before chains from one of a higher code
  lower : (one other : State) (kinds : List (List ℕ)) (reported : State) (chain later : List State) → code_of one < code_of other
      → IsChain rows one kinds reported chain → IsChain rows other kinds reported later → IsNotAfter chain later
  lower one other kinds reported chain later less is also =
      let first = begins one kinds reported chain is in
      let second = begins other kinds reported later also in
      subst (λ states. IsNotAfter states later) (sym first.1) (subst (λ states. IsNotAfter (one ∷ first.0) states) (sym second.1) (inl less))

  -- one state in front of a least chain from the next state, which is the first from which the other types lead on
  pub least_step : (state next : State) (kind : List ℕ) (kinds : List (List ℕ)) (reported : State) → Contains rows (row_of state kind next)
      → ((other : State) → Leads rows other kinds reported → Contains rows (row_of state kind other) → code_of next ≤ code_of other)
      → (rest : List State) → IsLeastChain rows next kinds reported rest → IsLeastChain rows state (kind ∷ kinds) reported (state ∷ rest)
  least_step state next kind kinds reported row first rest least = record {
    chain_is = (next, rest, refl, row, least.chain_is);
    least = λ other is. subst (λ states. IsNotAfter (state ∷ rest) states) (sym is.2) (inr (refl, onward is.0 is.1 is.3 is.4));
  } where
    onward : (to : State) (later : List State) → Contains rows (row_of state kind to) → IsChain rows to kinds reported later → IsNotAfter rest later
    onward to later step is =
        let least_code : code_of next ≤ code_of to = first to (later, is) step in
        elim (cases_order (code_of next) (code_of to)) [
          | inl same ↦ least.least later (subst (λ from. IsChain rows from kinds reported later) (sym (code_of_injective next to same)) is)
          | inr (inl less) ↦ lower next to kinds reported rest later less least.chain_is is
          | inr (inr more) ↦ absurd (omega (arith, least_code, more))
        ]

  -- the first state in code order has the lowest code
  lowest : (first : State) (rest : List State) → AreInCodeOrder (first ∷ rest) → (state : State) → Contains (first ∷ rest) state → code_of first ≤ code_of state
  lowest first rest order state (zero, within, is) = omega (arith, ap code_of is)
  lowest first rest order state (suc k, within, is) =
      let less : code_of first < code_of (get_or (first ∷ rest) (suc k) state) = order 0 (suc k) state (omega arith) within in
      omega (arith, less, ap code_of is)

  -- the first of the states to which a row leads, and which are in a set, is the least one
  pub first_least : (set to common : List State) (from : State) (kind : List ℕ) → AreInCodeOrder common
      → ((state : State) → Contains to state ↔ Contains rows (row_of from kind state)) → AreCommon to set common
      → IsLeastNext rows from kind set (slice_get common 0)
  first_least set to [] from kind order led both = λ state found row. none_in_empty state ((both state).1 ((led state).1 row, found))
  first_least set to (first ∷ rest) from kind order led both =
      let here = (both first).0 (0, omega arith, refl) in
      (here.1, (led first).0 here.0, λ state found row. lowest first rest order state ((both state).1 ((led state).1 row, found)))

  -- where an event leads on, some first step of it does
  pub some_next : (from : State) (kind : List ℕ) (kinds : List (List ℕ)) (reported : State) (set : List State) (found : Option State)
      → AreOpenings rows kinds reported set → Leads rows from (kind ∷ kinds) reported → IsLeastNext rows from kind set found → IsSome found
  some_next from kind kinds reported set (Some next) openings leads least = refl
  some_next from kind kinds reported set None openings leads least =
      absurd (least leads.1.0 ((openings leads.1.0).1 (leads.1.1, leads.1.4)) leads.1.3)

  -- one state more, at a place of the types, and a least chain of the later types goes on with the states so far
  pub least_more : (kinds : List (List ℕ)) (at : ℕ) (kind : List ℕ) (held state next reported : State) (set before : List State) (found : Option State)
      → at < length kinds → kind ≡ get_or kinds at kind → AreOpenings rows (drop (at + 1) kinds) reported set
      → found ≡ Some next → IsLeastNext rows state kind set found
      → ((rest : List State) → IsLeastChain rows state (drop at kinds) reported rest → IsLeastChain rows held kinds reported (before ++ rest))
      → (rest : List State) → IsLeastChain rows next (drop (at + 1) kinds) reported rest
      → IsLeastChain rows held kinds reported ((before ++ state ∷ []) ++ rest)
  least_more kinds at kind held state next reported set before found within is openings found_is least so_far rest after =
      let first : IsLeastNext rows state kind set (Some next) = subst (λ option. IsLeastNext rows state kind set option) found_is least in
      let step = least_step state next kind (drop (at + 1) kinds) reported first.1 (λ other leads row. first.2 other ((openings other).1 leads) row) rest after in
      let types : kind ∷ drop (at + 1) kinds ≡ drop at kinds = sym (drop_more kinds at kind within ∙ ap (λ one. one ∷ drop (at + 1) kinds) (sym is)) in
      rw append_assoc (so_far (state ∷ rest) (subst (λ all. IsLeastChain rows state all reported (state ∷ rest)) types step))

  -- the types from a place on are the one there and those after it
  pub leads_from : (kinds : List (List ℕ)) (at : ℕ) (kind : List ℕ) (from reported : State) → at < length kinds → kind ≡ get_or kinds at kind
      → Leads rows from (drop at kinds) reported → Leads rows from (kind ∷ drop (at + 1) kinds) reported
  leads_from kinds at kind from reported within is leads =
      subst (λ all. Leads rows from all reported) (drop_more kinds at kind within ∙ ap (λ one. one ∷ drop (at + 1) kinds) (sym is)) leads

  -- the openings of one type more
  pub ends_push : (kinds : List (List ℕ)) (at : ℕ) (reported : State) (sets : List (List State)) (set : List State) → length sets + at ≡ length kinds
      → AreOpenings rows (drop at kinds) reported set → HasOpenings rows kinds reported sets → HasOpenings rows kinds reported (sets ++ set ∷ [])
  ends_push kinds at reported sets set place now each k n d within sum = elim (cases_lt n (length sets)) [
    | inl earlier ↦ subst (AreOpenings rows (drop k kinds) reported) (sym (get_or_append_left sets (set ∷ []) d n earlier)) (each k n d earlier sum)
    | inr rest ↦
        let here : length sets ≡ n = omega (arith, rest, within, length-append sets (set ∷ [])) in
        let same : at ≡ k = omega (arith, place, here, sum) in
        subst (AreOpenings rows (drop k kinds) reported) (sym (get_or_push sets set d n here)) (subst (λ j. AreOpenings rows (drop j kinds) reported set) same now)
  ]

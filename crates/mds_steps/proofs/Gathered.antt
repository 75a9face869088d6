-- One step of a set of states, gathered state by state from the masks of a type.
use Rattle.std.proofs.Common.{◌≡◌, ◌↔◌, ◌⊎◌, inl, inr, ℕ, ◌≤◌, List, [], ◌∷◌, ◌++◌, length, take, Contains, refl, sym, subst}
use Rattle.std.proofs.lemmas.List.{take_all}
use Rattle.std.proofs.lemmas.List.Elements.{Contains-push, Contains-push_cases, Contains-append_left}
use Rattle.mds_table.specs.declared.state.State.{State}
use Rattle.mds_table.specs.declared.row.Row.{Row}
use Rattle.mds_table.specs.Row.{row_of}
use Rattle.mds_table.specs.Mask.{mask_from, AreMasks}
use Rattle.mds_steps.specs.StateSet.{all_states, states_in, IsUnion, AreCommon}
use Rattle.mds_steps.specs.Step.{AreNext, IsPrevious, ArePrevious}
use Rattle.mds_table.proofs.Adding.{among_all}
use Rattle.mds_steps.proofs.Members.{members}
use Rattle.mds_steps.proofs.Sets.{none_in_empty, only_one, one_itself, some_in}

-- a set has the states to which a relation leads from those gone over
abbrev pub Gathers : (State → State → Type 0) → List State → List State → Type 0
Gathers P seen set = (x : State) → Contains set x ↔ ((from : State) × Contains seen from × P from x)

module _ (P : State → State → Type 0) where
  pub gather_none : Gathers P [] []
  gather_none x = (λ found. absurd (none_in_empty x found), λ from. absurd (none_in_empty from.0 from.1))

  gather_more : (seen set new : List State) (one : State) → Gathers P seen set → ((x : State) → Contains new x ↔ (Contains set x ⊎ P one x))
      → Gathers P (seen ++ one ∷ []) new
  gather_more seen set new one so_far step x = (
    λ found. elim ((step x).0 found) [
      | inl before ↦ let from = (so_far x).0 before in (from.0, Contains-append_left seen (one ∷ []) from.0 from.1, from.2)
      | inr here ↦ (one, Contains-push seen one, here)
    ],
    λ from. (step x).1 (elim (Contains-push_cases seen one from.0 from.1) [
      | inl before ↦ inl ((so_far x).1 (from.0, before, from.2))
      | inr same ↦ inr (subst (λ state. P state x) (sym same) from.2)
    ]),
  )

  pub gather_not : (seen set : List State) (one : State) → Gathers P seen set → ((x : State) → P one x → ⊥) → Gathers P (seen ++ one ∷ []) set
  gather_not seen set one so_far none =
      gather_more seen set set one so_far (λ x. (λ found. inl found, λ either. elim either [ inl found ↦ found | inr here ↦ absurd (none x here) ]))

  gathered : (i : ℕ) (set : List State) → length all_states ≤ i → Gathers P (take i all_states) set → (x : State) → Contains set x ↔ ((from : State) × P from x)
  gathered i set done all x =
      let whole : Gathers P all_states set = subst (λ seen. Gathers P seen set) (take_all i all_states done) all in
      (λ found. let from = (whole x).0 found in (from.0, from.2), λ from. (whole x).1 (from.0, among_all from.0, from.1))

module _ (rows : List Row) (kind : List ℕ) (set : List State) where
  -- a row leads there from this state, which is in the set
  abbrev pub IsStep : State → State → Type 0
  IsStep from to = Contains set from × Contains rows (row_of from kind to)

  -- this state, from which a row leads to the set
  abbrev pub IsBack : State → State → Type 0
  IsBack from state = (from ≡ state) × IsPrevious rows set kind from

  pub next_all : (i : ℕ) (next : List State) → length all_states ≤ i → Gathers IsStep (take i all_states) next → AreNext rows set kind next
  next_all i next done all to =
      let each = gathered IsStep i next done all to in
      (λ found. let from = each.0 found in (from.0, from.1.0, from.1.1), λ from. each.1 (from.0, (from.1, from.2)))

  pub previous_all : (i : ℕ) (previous : List State) → length all_states ≤ i → Gathers IsBack (take i all_states) previous → ArePrevious rows set kind previous
  previous_all i previous done all state =
      let each = gathered IsBack i previous done all state in
      (λ found. let from = each.0 found in subst (IsPrevious rows set kind) from.1.0 from.1.1, λ back. each.1 (state, (refl, back)))

  module _ (masks : List ℕ) (are : AreMasks rows kind masks) where
    -- the states to which a type leads, by its mask
    pub led : (from : State) (to : List State) → to ≡ states_in (mask_from masks from) → (state : State) → Contains to state ↔ Contains rows (row_of from kind state)
    led from to is state = subst (λ states. Contains states state ↔ Contains rows (row_of from kind state)) (sym is)
        (λ found. (are from state).0 ((members _ state).1 found), λ row. (members _ state).0 ((are from state).1 row))

    pub next_more : (seen next to new : List State) (from : State) → Gathers IsStep seen next → Contains set from → to ≡ states_in (mask_from masks from)
        → IsUnion next to new → Gathers IsStep (seen ++ from ∷ []) new
    next_more seen next to new from so_far held is both = gather_more IsStep seen next new from so_far (λ state.
        let here = led from to is state in (
          λ found. elim ((both state).0 found) [ inl before ↦ inl before | inr after ↦ inr (held, here.0 after) ],
          λ either. (both state).1 (elim either [ inl before ↦ inl before | inr step ↦ inr (here.1 step.1) ]),
        ))

    -- where a type leads from a state into the set, both have a state in common
    pub back_from : (to common : List State) (from : State) → to ≡ states_in (mask_from masks from) → AreCommon to set common
        → ((common ≡ [] → ⊥) → IsPrevious rows set kind from) × (common ≡ [] → IsPrevious rows set kind from → ⊥)
    back_from to common from is both = (
      λ some.
          let one = some_in common some in
          let parts = (both one.0).0 one.1 in
          (one.0, parts.1, (led from to is one.0).0 parts.0),
      λ nothing back.
          none_in_empty back.0 (subst (λ states. Contains states back.0) nothing ((both back.0).1 ((led from to is back.0).1 back.2, back.1))),
    )

  pub previous_more : (seen previous new : List State) (from : State) → Gathers IsBack seen previous → IsPrevious rows set kind from
      → IsUnion previous (from ∷ []) new → Gathers IsBack (seen ++ from ∷ []) new
  previous_more seen previous new from so_far back both = gather_more IsBack seen previous new from so_far (λ state. (
    λ found. elim ((both state).0 found) [ inl before ↦ inl before | inr one ↦ inr (only_one from state one, back) ],
    λ either. (both state).1 (elim either [ inl before ↦ inl before | inr here ↦ inr (subst (λ x. Contains (from ∷ []) x) here.0 (one_itself from)) ]),
  ))

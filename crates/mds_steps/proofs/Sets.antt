-- Sets of possible states, type by type.
use Rattle.std.proofs.Common.{◌≡◌, ◌↔◌, ◌<◌, ◌≤◌, ◌+◌, ◌-◌, ℕ, zero, suc, get_or, List, [], ◌∷◌, ◌++◌, length, take, drop, Contains, refl, sym, subst, arith}
use Rattle.std.proofs.lemmas.List.{take_all, take_more, drop_more}
use Rattle.mds_table.specs.declared.state.State.{State}
use Rattle.mds_table.specs.declared.row.Row.{Row}
use Rattle.mds_table.specs.Chain.{Leads, Passes, IsStuckAt}
use Rattle.mds_steps.specs.Step.{AreNext, ArePrevious}
use Rattle.mds_steps.specs.Reached.{AreReached}
use Rattle.mds_steps.specs.Opening.{AreOpenings}
use Rattle.mds_steps.specs.Stuck.{PassesFrom, IsStuckFrom}
use Rattle.mds_steps.proofs.Chains.{leads_nowhere, leads_by_row, row_of_step, join, split, split_at}

pub none_in_empty : {X : Type 0} (x : X) → Contains [] x → ⊥
none_in_empty x found = omega (arith, found.1)

pub only_one : {X : Type 0} (x y : X) → Contains (x ∷ []) y → x ≡ y
only_one x y (zero, within, is) = is
only_one x y (suc k, within, is) = absurd (omega (arith, within))

pub one_itself : {X : Type 0} (x : X) → Contains (x ∷ []) x
one_itself x = (0, omega arith, refl)

-- a list that isn't empty has an element
pub some_in : {X : Type 0} (xs : List X) → (xs ≡ [] → ⊥) → (x : X) × Contains xs x
some_in [] not_empty = absurd (not_empty refl)
some_in (x ∷ xs) not_empty = (x, (0, omega arith, refl))

module _ (rows : List Row) where
  -- one more type
  pub reached_more : (set reached next : List State) (kinds : List (List ℕ)) (kind : List ℕ)
      → AreReached rows set kinds reached → AreNext rows reached kind next → AreReached rows set (kinds ++ kind ∷ []) next
  reached_more set reached next kinds kind before step = λ to. (
    λ found.
        let last = (step to).0 found in
        let from = (before last.0).0 last.1 in
        (from.0, from.1, join rows kinds (kind ∷ []) from.0 last.0 to from.2 (leads_by_row rows last.0 to kind last.2)),
    λ from.
        let parts = split rows kinds (kind ∷ []) from.0 to from.2 in
        (step to).1 (parts.0, (before parts.0).1 (from.0, from.1, parts.1), row_of_step rows parts.0 to kind parts.2),
  )

  pub reached_next : (set reached next : List State) (kinds : List (List ℕ)) (at : ℕ) (kind : List ℕ) → at < length kinds → kind ≡ get_or kinds at kind
      → AreReached rows set (take at kinds) reached → AreNext rows reached kind next → AreReached rows set (take (at + 1) kinds) next
  reached_next set reached next kinds at kind within is before step =
      rw (take_more kinds at kind within, ← is) (reached_more set reached next (take at kinds) kind before step)

  -- all types are gone over
  pub reached_all : (set reached : List State) (kinds : List (List ℕ)) (at : ℕ) → length kinds ≤ at
      → AreReached rows set (take at kinds) reached → AreReached rows set kinds reached
  reached_all set reached kinds at done before = subst (λ all. AreReached rows set all reached) (take_all at kinds done) before

  -- one more type in front
  pub openings_more : (later previous : List State) (kind : List ℕ) (kinds : List (List ℕ)) (reported : State)
      → AreOpenings rows kinds reported later → ArePrevious rows later kind previous → AreOpenings rows (kind ∷ kinds) reported previous
  openings_more later previous kind kinds reported after step = λ from. (
    λ found.
        let next = (step from).0 found in
        join rows (kind ∷ []) kinds from next.0 reported (leads_by_row rows from next.0 kind next.2) ((after next.0).0 next.1),
    λ leads.
        let parts = split rows (kind ∷ []) kinds from reported leads in
        (step from).1 (parts.0, (after parts.0).1 parts.2, row_of_step rows from parts.0 kind parts.1),
  )

  pub openings_next : (later previous : List State) (kinds : List (List ℕ)) (at : ℕ) (kind : List ℕ) (reported : State) → 1 ≤ at → at ≤ length kinds
      → kind ≡ get_or kinds (at - 1) kind → AreOpenings rows (drop at kinds) reported later → ArePrevious rows later kind previous
      → AreOpenings rows (drop (at - 1) kinds) reported previous
  openings_next later previous kinds at kind reported some within is after step =
      let place : at - 1 + 1 ≡ at = omega arith in
      let less : at - 1 < length kinds = omega arith in
      rw (drop_more kinds (at - 1) kind less, ← is, place) (openings_more later previous kind (drop at kinds) reported after step)

  -- all types are gone over
  pub openings_all : (openings : List State) (kinds : List (List ℕ)) (at : ℕ) (reported : State) → at ≤ 0
      → AreOpenings rows (drop at kinds) reported openings → AreOpenings rows kinds reported openings
  openings_all openings kinds zero reported done after = after
  openings_all openings kinds (suc at) reported done after = absurd (omega (arith, done))

  -- where no state leads on from some type, none leads to it
  pub openings_never : (openings : List State) (kinds : List (List ℕ)) (at : ℕ) (reported : State) → openings ≡ []
      → AreOpenings rows (drop at kinds) reported openings → AreOpenings rows kinds reported openings
  openings_never openings kinds at reported nothing after =
      let none : (state : State) → Contains openings state → ⊥ = λ state found. none_in_empty state (subst (λ states. Contains states state) nothing found) in λ from. (
        λ found. absurd (none from found),
        λ leads.
            let parts = split_at rows at kinds from reported leads in
            absurd (none parts.0 ((after parts.0).1 parts.2)),
      )

  -- from a set: where some state is reached by the first types, they can be passed
  pub passes_from : (set : List State) (kinds : List (List ℕ)) (at : ℕ) (reached : List State) → AreReached rows set (take at kinds) reached
      → (reached ≡ [] → ⊥) → PassesFrom rows set kinds at
  passes_from set kinds at reached all not_empty =
      let some = some_in reached not_empty in
      let from = (all some.0).0 some.1 in
      (from.0, from.1, (some.0, from.2))

  -- where none is, they can't
  pub passes_none : (set : List State) (kinds : List (List ℕ)) (at : ℕ) (reached : List State) → reached ≡ [] → AreReached rows set (take at kinds) reached
      → PassesFrom rows set kinds at → ⊥
  passes_none set kinds at reached nothing all passes =
      none_in_empty passes.2.0 (subst (λ states. Contains states passes.2.0) nothing ((all passes.2.0).1 (passes.0, passes.1, passes.2.1)))

  -- where the types get stuck, no state is reached by all of them
  pub reached_none : (set : List State) (kinds : List (List ℕ)) (at : ℕ) → at < length kinds → IsStuckFrom rows set kinds at → AreReached rows set kinds []
  reached_none set kinds at within stuck to = (
    λ found. absurd (none_in_empty to found),
    λ from. let parts = split_at rows (at + 1) kinds from.0 to from.2 in absurd (stuck.stuck within (from.0, from.1, (parts.0, parts.1))),
  )

  -- from one state held
  pub leads_where_reached : (held to : State) (kinds : List (List ℕ)) (reached : List State) → AreReached rows (held ∷ []) kinds reached
      → Contains reached to ↔ Leads rows held kinds to
  leads_where_reached held to kinds reached all = (
    λ found. let from = (all to).0 found in subst (λ state. Leads rows state kinds to) (sym (only_one held from.0 from.1)) from.2,
    λ leads. (all to).1 (held, one_itself held, leads),
  )

  pub stuck_at : (held : State) (kinds : List (List ℕ)) (at : ℕ) → IsStuckFrom rows (held ∷ []) kinds at → IsStuckAt rows held kinds at
  stuck_at held kinds at stuck = record {
    within = stuck.within;
    passed = passes;
    stuck = λ within on. stuck.stuck within (held, one_itself held, on);
  } where
    passes : (n : ℕ) → n ≤ at → Passes rows held kinds n
    passes zero within = (held, leads_nowhere rows held)
    passes (suc n) within =
        let from = stuck.passed n (omega (arith, within)) in
        let place : n + 1 ≡ suc n = omega arith in
        subst (Passes rows held kinds) place (subst (λ state. Passes rows state kinds (n + 1)) (sym (only_one held from.0 from.1)) from.2)

  pub leads_past_none : (held reported : State) (kinds : List (List ℕ)) (at : ℕ) → at < length kinds → IsStuckFrom rows (held ∷ []) kinds at
      → Leads rows held kinds reported → ⊥
  leads_past_none held reported kinds at within stuck leads =
      let parts = split_at rows (at + 1) kinds held reported leads in stuck.stuck within (held, one_itself held, (parts.0, parts.1))

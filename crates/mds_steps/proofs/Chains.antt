-- Chains in two parts.
use Rattle.std.proofs.Common.{ℕ, List, [], ◌∷◌, ◌++◌, take, drop, Contains, refl, sym, subst}
use Rattle.std.proofs.lemmas.List.{take-append-drop}
use Rattle.mds_table.specs.declared.state.State.{State}
use Rattle.mds_table.specs.declared.row.Row.{Row}
use Rattle.mds_table.specs.Row.{row_of}
use Rattle.mds_table.specs.Chain.{Leads}

module _ (rows : List Row) where
  -- without a type, the state held is the one reported
  pub leads_nowhere : (state : State) → Leads rows state [] state
  leads_nowhere state = (state ∷ [], (refl, refl))

  -- one type leads where a row of it does
  pub leads_by_row : (from to : State) (kind : List ℕ) → Contains rows (row_of from kind to) → Leads rows from (kind ∷ []) to
  leads_by_row from to kind row = (from ∷ to ∷ [], (to, to ∷ [], refl, row, (refl, refl)))

  pub row_of_step : (from to : State) (kind : List ℕ) → Leads rows from (kind ∷ []) to → Contains rows (row_of from kind to)
  row_of_step from to kind leads = subst (λ state. Contains rows (row_of from kind state)) leads.1.4.1 leads.1.3

  -- chains that meet in a state are one chain
  pub join : (first second : List (List ℕ)) (from mid to : State) → Leads rows from first mid → Leads rows mid second to → Leads rows from (first ++ second) to
  join [] second from mid to begins ends = subst (λ state. Leads rows state second to) (sym begins.1.1) ends
  join (kind ∷ first) second from mid to begins ends =
      let rest = join first second begins.1.0 mid to (begins.1.1, begins.1.4) ends in
      (from ∷ rest.0, (begins.1.0, rest.0, refl, begins.1.3, rest.1))

  -- a chain goes through a state after each of its types
  pub split : (first second : List (List ℕ)) (from to : State) → Leads rows from (first ++ second) to
      → (mid : State) × Leads rows from first mid × Leads rows mid second to
  split [] second from to leads = (from, leads_nowhere from, leads)
  split (kind ∷ first) second from to leads =
      let rest = split first second leads.1.0 to (leads.1.1, leads.1.4) in
      (rest.0, (from ∷ rest.1.0, (leads.1.0, rest.1.0, refl, leads.1.3, rest.1.1)), rest.2)

  pub split_at : (n : ℕ) (kinds : List (List ℕ)) (from to : State) → Leads rows from kinds to
      → (mid : State) × Leads rows from (take n kinds) mid × Leads rows mid (drop n kinds) to
  split_at n kinds from to leads = split (take n kinds) (drop n kinds) from to (subst (λ all. Leads rows from all to) (sym (take-append-drop n kinds)) leads)

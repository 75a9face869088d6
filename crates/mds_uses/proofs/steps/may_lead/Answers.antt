use Rattle.std.proofs.Common.{rules, ◌↔◌, Contains, ℕ, List, [], ◌∷◌, refl, subst}
use Rattle.mds_table.specs.declared.state.State.{State}
use Rattle.mds_table.specs.declared.row.Row.{Row}
use Rattle.mds_table.specs.Row.{row_of}
use Rattle.mds_table.specs.Chain.{Leads}
use Rattle.mds_uses.proofs.steps.may_lead.Goals as goal

-- by one type rows lead where one of them does
leads_by_row : (rows : List Row) (held : State) (kind : List ℕ) (reported : State) → Leads rows held (kind ∷ []) reported ↔ Contains rows (row_of held kind reported)
leads_by_row rows held kind reported = (
  λ leads. subst (λ (to : State). Contains rows (row_of held kind to)) leads.1.4.1 leads.1.3,
  λ has. (held ∷ reported ∷ [], (reported, reported ∷ [], refl, has, (refl, refl))),
)

pub returns : goal.returns
returns c =
    let by_row = leads_by_row c.args.table.now c.args.held c.args.kind c.args.reported in
    search (rules, by_row)

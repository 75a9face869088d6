use Rattle.std.proofs.Common.{◌↔◌, length, Contains, subst, rules, refl}
use Rattle.mds_table.specs.Chain.{Leads, IsStuckAt}
use Rattle.mds_steps.specs.Stuck.{IsStuckFrom}
use Rattle.mds_steps.specs.Reached.{AreReached}
use Rattle.mds_steps.proofs.Sets.{leads_where_reached, leads_past_none, stuck_at}
use Rattle.mds_steps.proofs.admission.admit.Goals as goal
use Rattle.mds_steps.proofs.admission.admit.Goals.{After-contains}

pub returns-in_err-reached-clause-fault : goal.returns-in_err-reached-clause-fault
returns-in_err-reached-clause-fault c =
    let stuck = subst (λ set. IsStuckFrom c.args.table.now set c.args.types.now c.in_err-reached.field-0.0.at) c.of.ensures c.in_err-reached.ensures.stuck.1 in
    let none : Leads c.args.table.now c.args.held c.args.types.now c.args.reported → ⊥ = leads_past_none _ _ _ _ c.in_err-reached.field-0.0.at c.in_err-reached.ensures.stuck.0 stuck in
    let at : IsStuckAt c.args.table.now c.args.held c.args.types.now c.in_err-reached.field-0.0.at = stuck_at _ _ _ _ stuck in
    search rules

pub returns-in_err-reached-clause-exact : goal.returns-in_err-reached-clause-exact
returns-in_err-reached-clause-exact c =
    let stuck = subst (λ set. IsStuckFrom c.args.table.now set c.args.types.now c.in_err-reached.field-0.0.at) c.of.ensures c.in_err-reached.ensures.stuck.1 in
    let none : Leads c.args.table.now c.args.held c.args.types.now c.args.reported → ⊥ = leads_past_none _ _ _ _ c.in_err-reached.field-0.0.at c.in_err-reached.ensures.stuck.0 stuck in
    search rules

-- where the state reported is reached, rows lead to it
leads : (c : After-contains) → Contains c.in_ok-reached.reached c.args.reported ↔ Leads c.args.table.now c.args.held c.args.types.now c.args.reported
leads c = leads_where_reached _ _ _ _ _ (subst (λ set. AreReached c.args.table.now set c.args.types.now c.in_ok-reached.reached) c.of.ensures c.in_ok-reached.ensures.reached.0)

pub returns-then-contains-clause-exact : goal.returns-then-contains-clause-exact
returns-then-contains-clause-exact c = (λ _. (leads (goal.at.returns-then-contains-clause-exact c).After-contains).0 (c.contains.ensures.0 c.if-contains.true), λ _. refl)

pub returns-else-contains-clause-fault : goal.returns-else-contains-clause-fault
returns-else-contains-clause-fault c = (
  λ chain. let found = c.contains.ensures.1 ((leads (goal.at.returns-else-contains-clause-fault c).After-contains).1 chain) in cc (found, c.if-contains.false),
  stuck_at _ _ _ _ (subst (λ set. IsStuckFrom c.args.table.now set c.args.types.now (length c.args.types.now)) c.of.ensures c.in_ok-reached.ensures.reached.1),
)

pub returns-else-contains-clause-exact : goal.returns-else-contains-clause-exact
returns-else-contains-clause-exact c = (λ no. cc no, λ chain. absurd ((returns-else-contains-clause-fault c).0 chain))

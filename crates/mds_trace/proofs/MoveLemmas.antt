-- Moves that halt.
use Rattle.std.specs.Prelude.{◌≡◌, length, Result, Ok, Err, IfErr, ◌≢◌, ◌<◌, ◌≤◌, ℕ}
use Rattle.std.proofs.Common.{arith, ap, ◌∙◌}
use Rattle.mds_trace.specs.declared.session.Halt.{Halt}
use Rattle.mds_trace.specs.declared.session.Halt.TheVariants.{AtEnd}
use Rattle.mds_trace.specs.declared.session.Place.{Place}
use Rattle.mds_table.specs.declared.state.State.{State}
use Rattle.mds_trace.specs.Walk.{Walk}
use Rattle.mds_trace.specs.Session.{held_at, KeepsEvents}
use Rattle.mds_trace.specs.declared.script.Move.TheVariants.{Next, Run}
use Rattle.mds_trace.specs.Printed.{LeadsTo, moved_to}

-- at the end there is no next event
pub next_halts : (walk : Walk) (result : Result (Unit {0}) Halt) → IfErr result (λ halt. (halt ≡ AtEnd) × (walk.place.event ≡ length walk.events))
    → IfErr result (λ halt. (halt ≡ AtEnd) × ((to : Place) → LeadsTo walk Next to → ⊥))
next_halts walk (Ok moved) end = tt
next_halts walk (Err halt) end = (end.0, λ to led. absurd (omega (arith, led.0, end.1)))

-- where a state is held at no later place, a run to it leads nowhere
pub run_halts : (walk : Walk) (state : State) (result : Result (Unit {0}) Halt)
    → IfErr result (λ halt. (halt ≡ AtEnd) × ((i : ℕ) → walk.place.event < i → i ≤ length walk.events → held_at walk.opening walk.events i ≢ state))
    → IfErr result (λ halt. (halt ≡ AtEnd) × ((to : Place) → LeadsTo walk (Run state) to → ⊥))
run_halts walk state (Ok moved) end = tt
run_halts walk state (Err halt) end = (end.0, λ to led. end.1 to.event led.later led.within led.held)

-- a session whose events are kept is the one at its place
pub kept_is : (old new : Walk) → KeepsEvents old new → new ≡ moved_to old new.place
kept_is old new kept =
    ap (λ tables. record { tables = tables; opening = new.opening; events = new.events; place = new.place }) kept.tables
    ∙ ap (λ opening. record { tables = old.tables; opening = opening; events = new.events; place = new.place }) kept.opening
    ∙ ap (λ events. record { tables = old.tables; opening = old.opening; events = events; place = new.place }) kept.events

-- events that are kept by one move and by the next
pub kept_on : (old mid new : Walk) → KeepsEvents old mid → KeepsEvents mid new → KeepsEvents old new
kept_on old mid new first second = record {
  tables = second.tables ∙ first.tables;
  opening = second.opening ∙ first.opening;
  events = second.events ∙ first.events;
}

use Rattle.std.proofs.Common.{◌≡◌, ◌∙◌, List, ap, sym, subst}
use Rattle.mds_core.specs.Reported.{Reported}
use Rattle.mds_table.specs.Tables.{Tables}
use Rattle.mds_table.specs.declared.state.State.TheVariants as state
use Rattle.mds_trace.specs.Replay.{accepted_of, prior_of, AreVerdicts}
use Rattle.mds_trace.specs.Session.{AreOpenFrom}
use Rattle.mds_trace.proofs.Accepted.{accepted_events_open}
use Rattle.mds_trace.specs.Vehicle.{VehicleReplaying}
use Rattle.mds_trace.proofs.vehicle.VehicleReplay.finish.Goals as goal

pub over-session-requires : goal.over-session-requires
over-session-requires c =
    let seen = c.args.self in
    let items = c.requires.0 in
    let took = c.requires.1 in
    let judged = subst (λ opening. AreVerdicts opening seen.replay.tables items seen.replay.lines) took.opening took.replayed.verdicts in
    let tables : c.into_tables-tables.result ≡ seen.replay.tables = c.into_tables-tables.ensures ∙ ap (λ (seen : VehicleReplaying). seen.replay.tables) c.self.view_is in
    let events : c.self.inside.events.accepted.events ≡ prior_of seen.key (accepted_of items seen.replay.lines) =
    ap (λ (seen : VehicleReplaying). seen.accepted) c.self.view_is ∙ took.accepted in
    subst (λ (of_file : Tables). AreOpenFrom of_file state.Removed c.self.inside.events.accepted.events) (sym tables)
    (subst (λ (all : List Reported). AreOpenFrom seen.replay.tables state.Removed all) (sym events)
    (accepted_events_open seen.replay.tables items seen.replay.lines seen.key judged))

-- What contracts see of a session.
use Rattle.std.specs.Prelude.{List}
use Rattle.mds_table.specs.declared.state.State.{State}
use Rattle.mds_table.specs.Tables.{Tables}
use Rattle.mds_core.specs.Reported.{Reported}
use Rattle.mds_trace.specs.declared.session.Place.{Place}

-- the tables, the state held before the first event, the events, and where the session stands
pub record Walk : Type 0 where
  pub tables : Tables
  pub opening : State
  pub events : List Reported
  pub place : Place

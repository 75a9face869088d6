-- What the members of an event say, and the event that it is.
use Rattle.std.specs.Prelude.{ℕ, List}
use Rattle.mds_core.specs.Reported.{Reported}
use Rattle.mds_batch.specs.declared.event.Told.{Told}

-- the event of what is told and of these types
abbrev pub reported_by : Told → List (List ℕ) → Reported
reported_by told types = record {
  key = told.key;
  id = told.id;
  state = told.state;
  types = types;
  time = told.time;
  position = told.position;
}

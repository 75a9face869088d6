-- What a command came to.
use Rattle.mds_commands.specs.Change.{Change}
use Rattle.mds_commands.specs.declared.status.Status.{Status}

-- what a command came to
pub record Outcome : Type 0 where
  -- the status that the program ends with
  pub ended : Status
  -- the output
  pub out : Change
  -- the writer that faults are told to
  pub faults : Change

-- this status, with these changes of both writers
abbrev pub outcome_of : Status → Change → Change → Outcome
outcome_of ended out faults = record { ended = ended; out = out; faults = faults }

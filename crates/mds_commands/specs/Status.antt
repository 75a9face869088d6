-- How the program ends.
use Rattle.std.specs.Prelude.{ℕ}
use Rattle.mds_commands.specs.declared.status.Status.{Status}
use Rattle.mds_commands.specs.declared.status.Status.TheVariants.{Done, Refused, BadWords}
use Rattle.mds_commands.specs.declared.status.Status.TheVariants.{Fault, NoMemory, Torn}

-- the number that the system is told
abbrev pub code_of : Status → ℕ
code_of Done = 0
code_of Refused = 1
code_of BadWords = 2
code_of Fault = 3
code_of NoMemory = 4
code_of Torn = 5

-- How many workers a command has, and why a journal isn't judged.
use Rattle.std.proofs.Common.{ℕ, List, Option, Some, None, arith}
use Rattle.mds_commands.specs.declared.problem.Problem.TheVariants.{Memory}
use Rattle.mds_commands.specs.declared.vehicles.problem.JournalProblem.{JournalProblem}
use Rattle.mds_commands.specs.declared.vehicles.problem.JournalProblem.TheVariants.{Other}
use Rattle.mds_city.specs.Host.{FileHost}
use Rattle.mds_args.specs.declared.words.Command.{Command}
use Rattle.mds_args.specs.declared.words.Command.TheVariants.{Serve, Replay, Debug, Table, Vehicles, Compact, Events}
use Rattle.mds_args.proofs.AskedLemmas.{HasCount}
use Rattle.mds_city.specs.Program.{ExplainsJudged, HasWorkers}

-- a command has as many workers as it may have, where it has a number that may be asked for
pub has_workers : (command : Command) → HasCount command → HasWorkers command
has_workers (Serve port each workers table journal metrics) few = (omega (arith, few.0), few.1)
has_workers (Replay file table any lines unlimited workers) few = few
has_workers (Debug file provider device table) few = tt
has_workers (Table table) few = tt
has_workers (Vehicles file table check) few = tt
has_workers (Compact old new before cuts follow table) few = tt
has_workers (Events file provider device) few = tt

-- where memory is wanting to tell a problem, that is explained as well
pub memory_too : {F : Type 0} (files : FileHost F) (path : Option (List ℕ)) (old : List ℕ) (problem : JournalProblem) → ExplainsJudged files path old problem
    → ExplainsJudged files path old (Other Memory)
memory_too files None old problem why = absurd why
memory_too files (Some path) old problem why = (why.0, why.1, why.2, (tt, λ is. cc))

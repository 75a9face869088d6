-- Why a command over a journal could not be carried out, and what is said of it.
use Rattle.std.specs.Prelude.{ℕ, List, ◌++◌, codes, Option}
use Rattle.mds_io.specs.Page.{AppendsUpTo, with_newline}
use Rattle.mds_groups.specs.Fault.{group_fault_text}
use Rattle.mds_commands.specs.declared.status.Status.{Status}
use Rattle.mds_commands.specs.declared.status.Status.TheVariants as status
use Rattle.mds_commands.specs.Problem.{Tells, status_of}
use Rattle.mds_commands.specs.declared.vehicles.problem.JournalProblem.{JournalProblem}
use Rattle.mds_commands.specs.declared.vehicles.problem.JournalProblem.TheVariants.{NotAJournal}
use Rattle.mds_commands.specs.declared.vehicles.problem.JournalProblem.TheVariants.{Other}

-- the status that the program ends with
abbrev pub journal_status_of : JournalProblem → Status
journal_status_of (NotAJournal fault) = status.Fault
journal_status_of (Other problem) = status_of problem

-- what is said of the problem went out, or a front of it
abbrev pub TellsJournal : Option (List ℕ) → Option (List ℕ) → JournalProblem → Type 0
TellsJournal old new (NotAJournal fault) =
    AppendsUpTo old new
    (with_newline (codes "mds_city: not a journal: " ++ group_fault_text fault))
TellsJournal old new (Other problem) = Tells old new problem

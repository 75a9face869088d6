-- How many workers the words ask for.
use Rattle.std.proofs.Common.{ℕ, ◌≤◌, List, Option, Some, None, subst, sym}
use Rattle.clap.specs.Words.{Row, Text, subcommand_of}
use Rattle.mds_args.specs.declared.words.Command.{Command}
use Rattle.mds_args.specs.declared.words.Command.TheVariants.{Serve, Replay, Debug, Table, Vehicles, Compact, Events}
use Rattle.mds_args.specs.Words.{Asks, IsAskedBy, IsNumber, max_workers, program_app}

-- the number of workers, where there are any, is one that may be asked for
abbrev pub HasCount : Command → Type 0
HasCount (Serve port each workers table journal metrics) = (1 ≤ workers) × (workers ≤ max_workers)
HasCount (Replay file table any lines unlimited workers) = (1 ≤ workers) × (workers ≤ max_workers)
HasCount other = Unit {0}

-- a number of a range lies in it
within : (value : Option Text) (number : ℕ) → IsNumber 1 max_workers value number → (1 ≤ number) × (number ≤ max_workers)
within None number is = absurd is
within (Some text) number is = (subst (λ n. 1 ≤ n) (sym is.1) is.0.2, subst (λ n. n ≤ max_workers) (sym is.1) is.0.3)

asked_count : (found : Option (Text × List Row)) (command : Command) → Asks found command → HasCount command
asked_count None command asks = absurd asks
asked_count (Some found) (Serve port each workers table journal metrics) asks = within _ workers asks.1.2
asked_count (Some found) (Replay file table any lines unlimited workers) asks = within _ workers asks.1.6
asked_count (Some found) (Debug file provider device table) asks = tt
asked_count (Some found) (Table table) asks = tt
asked_count (Some found) (Vehicles file table check) asks = tt
asked_count (Some found) (Compact old new before cuts follow table) asks = tt
asked_count (Some found) (Events file provider device) asks = tt

-- a command that the words ask for has such a number
pub counted : (words : List Text) (command : Command) → IsAskedBy words command → HasCount command
counted words command asked = asked_count (subcommand_of program_app words) command asked.0

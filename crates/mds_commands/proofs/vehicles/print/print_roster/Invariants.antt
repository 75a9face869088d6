use Rattle.std.proofs.Common.{◌++◌, List, drop, string_bytes}
use Rattle.mds_io.specs.Page.{Passes}
use Rattle.mds_table.specs.Tables.{Tables}
use Rattle.mds_core.specs.declared.request.Request.{Request}
use Rattle.mds_commands.specs.Roster.{IsRosterOf, standings_in}
use Rattle.mds_commands.specs.ListingText.{vehicle_lines}
use Rattle.mds_commands.proofs.vehicles.print.print_roster.Given as goal

-- what is left waiting is the page, and the lines of the vehicles that are left
abbrev pub invariant-loop-at : goal.invariant-loop-at
invariant-loop-at g l =
    (tables : Tables) (history : List Request) → IsRosterOf tables history l.roster
    → Passes (g.W.Write.contents l.initial.writer) (g.W.Write.contents l.writer) (vehicle_lines (standings_in history))
    (string_bytes l.page ++ vehicle_lines (drop l.at (standings_in history)))

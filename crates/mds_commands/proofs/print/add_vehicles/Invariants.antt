use Rattle.std.proofs.Common.{◌++◌, drop, string_bytes}
use Rattle.mds_io.specs.Page.{Passes}
use Rattle.mds_commands.specs.Text.{vehicle_lines}
use Rattle.mds_commands.proofs.print.add_vehicles.Given as goal

-- what is left waiting is the page, and the lines of the vehicles that are left
abbrev pub invariant-loop-end : goal.invariant-loop-end
invariant-loop-end g l =
    Passes (g.W.Write.contents l.initial.writer) (g.W.Write.contents l.writer) (string_bytes l.initial.page ++ vehicle_lines l.opening l.ends)
    (string_bytes l.page ++ vehicle_lines l.opening (drop l.end-index l.ends))

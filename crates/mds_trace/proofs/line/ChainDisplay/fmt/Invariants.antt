use Rattle.std.proofs.Common.{◌++◌, codes, take}
use Rattle.std.specs.List.{flat_map}
use Rattle.std.specs.Fmt.{HasWritten, IsPlainFormatter}
use Rattle.mds_table.specs.State.{name_of}
use Rattle.mds_trace.proofs.line.ChainDisplay.fmt.Given as goal

-- the names of the states so far are written, each behind a space
abbrev pub invariant-loop-state : goal.invariant-loop-state
invariant-loop-state g l =
    IsPlainFormatter l.initial.f
    → HasWritten g.W.Write.write_str_gives l.initial.f (flat_map (λ state. codes " " ++ name_of state) (take l.state-index l.rest)) l.f

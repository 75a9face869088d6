use Rattle.std.proofs.Common.{◌++◌, codes, take}
use Rattle.std.specs.List.{flat_map}
use Rattle.std.specs.Fmt.{HasWritten, IsPlainFormatter}
use Rattle.mds_batch.proofs.texts.CommasDisplay.fmt.Given as goal

-- the texts of the items so far are written, each behind a comma
abbrev pub invariant-loop-item : goal.invariant-loop-item
invariant-loop-item g l =
    IsPlainFormatter l.initial.f
    → HasWritten g.W.Write.write_str_gives l.initial.f (flat_map (λ item. codes "," ++ g.T.Json.json item) (take l.item-index l.rest)) l.f

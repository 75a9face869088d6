use Rattle.std.proofs.Common.{take}
use Rattle.mds_city.specs.Cuts.{AreCutsOf}
use Rattle.mds_city.proofs.cuts.cuts_of.Given as goal

-- the cuts of the words so far
abbrev pub invariant-loop-one : goal.invariant-loop-one
invariant-loop-one l = AreCutsOf (take l.one-index l.words) l.cuts.items

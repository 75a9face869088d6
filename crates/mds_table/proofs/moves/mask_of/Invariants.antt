use Rattle.std.proofs.Common.{take}
use Rattle.mds_table.proofs.Bits.{IsMaskAmong}
use Rattle.mds_table.proofs.moves.mask_of.Given as goal

-- the mask has those of the states so far
abbrev pub invariant-loop-to : goal.invariant-loop-to
invariant-loop-to l = IsMaskAmong (take l.to-index l.to-items) l.rows l.kind l.from l.mask

use Rattle.std.specs.List.{Any}
use Rattle.mds_settle.specs.Bounds.{IsLowered, IsTrueBelow, IsWrongAt}
use Rattle.mds_settle.proofs.Lowering.{EachOf}
use Rattle.mds_settle.proofs.truth.lowered_by_notes.Given as goal

-- the bound is lowered by the notes so far
abbrev pub invariant-loop-note : goal.invariant-loop-note
invariant-loop-note l =
    IsLowered (λ bound. EachOf l.note-index (IsTrueBelow l.tables l.shard l.history bound) l.notes)
    (λ place. Any (IsWrongAt l.tables l.shard l.history place) l.notes) l.fn.bound l.least

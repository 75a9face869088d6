use Rattle.std.proofs.Common.{IsSome}
use Rattle.std.specs.List.{AllWithin}
use Rattle.mds_waiting.proofs.waiting.vacant_in.Given as goal

abbrev pub invariant-loop-key : goal.invariant-loop-key
invariant-loop-key g l = AllWithin IsSome l.slots 0 l.key

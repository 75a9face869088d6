use Rattle.std.proofs.Common.{◌≡◌, ℕ, [], take, drop, length}
use Rattle.mds_compact.specs.Passes.{IsThinningOf, IsMarkingOf}
use Rattle.mds_compact.proofs.whole.marks_of.Given as goal

abbrev pub invariant-loop-request : goal.invariant-loop-request
invariant-loop-request l = record {
  count : length l.marks.items ≡ l.request-index;
  next : (from : ℕ) → IsThinningOf from l.history [] l.fn.thinning → IsMarkingOf from (take l.request-index l.history) (drop l.request-index l.history) l.marks.items l.marking;
}

use Rattle.mds_waiting.specs.Least.{IsLeastBelow}
use Rattle.mds_waiting.proofs.least.find_least.Given as goal

abbrev pub invariant-loop-key : goal.invariant-loop-key
invariant-loop-key g l = IsLeastBelow l.order l.slots l.key l.best

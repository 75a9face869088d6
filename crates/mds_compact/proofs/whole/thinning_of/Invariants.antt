use Rattle.std.proofs.Common.{take, drop}
use Rattle.mds_compact.specs.Passes.{IsSurveyOf, IsThinningOf}
use Rattle.mds_compact.proofs.whole.thinning_of.Given as goal

abbrev pub invariant-loop-request : goal.invariant-loop-request
invariant-loop-request l = IsSurveyOf l.history l.fn.survey → IsThinningOf l.from (take l.request-index l.history) (drop l.request-index l.history) l.thinning

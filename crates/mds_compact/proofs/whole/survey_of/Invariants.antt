use Rattle.std.proofs.Common.{take}
use Rattle.mds_compact.specs.Passes.{IsSurveyOf}
use Rattle.mds_compact.proofs.whole.survey_of.Given as goal

abbrev pub invariant-loop-request : goal.invariant-loop-request
invariant-loop-request l = IsSurveyOf (take l.request-index l.history) l.survey

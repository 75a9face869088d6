use Rattle.std.proofs.Common.{length}
use Rattle.mds_trace.proofs.ScriptLemmas.{AreRead}
use Rattle.mds_trace.proofs.script.script_of.Given as goal

abbrev pub invariant-loop-rest : goal.invariant-loop-rest
invariant-loop-rest l = AreRead l.bytes l.rest l.script.items

abbrev pub decreases-loop-rest : goal.decreases-loop-rest
decreases-loop-rest l = length l.rest

use Rattle.std.proofs.Common.{sym, subst}
use Rattle.std.specs.Str.{IsUtf8}
use Rattle.mds_trace.proofs.ScriptLemmas.{is_text}
use Rattle.mds_trace.proofs.script.ScriptCommand.of_line.Goals as goal

pub returns-in-Err : goal.returns-in-Err
returns-in-Err c = λ command same. c.in-Err.ensures.cases.0 (subst IsUtf8 (sym same) (is_text command))

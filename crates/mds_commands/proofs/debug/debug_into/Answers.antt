use Rattle.std.proofs.Common.{inr, subst, sym}
use Rattle.mds_io.specs.declared.page.PrintError.{PrintError}
use Rattle.mds_io.specs.declared.page.PrintError.TheVariants as write
use Rattle.mds_trace.specs.Walk.{Walk}
use Rattle.mds_trace.specs.declared.line.CountsLine.{CountsLine}
use Rattle.mds_commands.specs.declared.debug.Named.{Named}
use Rattle.mds_commands.specs.declared.debug.DebugProblem.{DebugProblem}
use Rattle.mds_commands.specs.declared.debug.DebugProblem.TheVariants.{Other}
use Rattle.mds_commands.specs.Files.{Files, files_of}
use Rattle.mds_commands.specs.Change.{Change, change_of}
use Rattle.mds_commands.specs.Problem.{written_problem}
use Rattle.mds_commands.specs.Debug.{DebugsFront, DebugPrintsFront, DebugWentOut, ExplainsDebug, HasSession}
use Rattle.mds_commands.proofs.ErrorLemmas.{passed_on}
use Rattle.mds_commands.proofs.debug.debug_into.Goals as goal

module _ {T R : Type 0} (files : Files T R) (named : Named)
    (walk : Walk) (counts : CountsLine) (input out : Change) where
  -- a session that could not be shown whole is explained, and a front of what it prints went out
  stopped : (fault : PrintError) → HasSession files named walk counts → DebugsFront fault walk counts input out
      → ExplainsDebug files named (Other (written_problem fault))
      × DebugWentOut files named (Other (written_problem fault)) input out
  stopped write.Memory has front =
      let prints : DebugPrintsFront files named write.Memory input out = (walk, counts, has, front) in
      (((has.0, has.3.0), tt), inr prints)
  stopped write.Device has front =
      let prints : DebugPrintsFront files named write.Device input out = (walk, counts, has, front) in
      (((has.0, has.3.0), tt), prints)

pub returns-in_err-show-clause-err : goal.returns-in_err-show-clause-err
returns-in_err-show-clause-err g c =
    let stop = c.in_err-show.ensures.err in
    let input = change_of (g.I.Read.remaining c.args.script.now) (g.I.Read.remaining c.show.new.script) in
    let out = change_of (g.W.Write.contents c.args.out.now) (g.W.Write.contents c.show.new.out) in
    let told = stopped (files_of g.T.Read.remaining c.args.table g.R.Read.remaining c.args.file) c.args.named c.in_ok-opened.opened.session c.in_ok-opened.opened.counts
    input out stop.0 c.in_ok-opened.ensures.ok stop.2 in
    passed_on _ _ _ c.from_residual-in_err-show.ensures.1
    (subst (λ (problem : DebugProblem). ExplainsDebug (files_of g.T.Read.remaining c.args.table g.R.Read.remaining c.args.file) c.args.named problem
    × DebugWentOut (files_of g.T.Read.remaining c.args.table g.R.Read.remaining c.args.file) c.args.named problem input out) (sym stop.1) told)

use Rattle.std.proofs.Common.{◌∙◌, inl, inr, ap}
use Rattle.std.proofs.KnownBytes.{Keeps-refl}
use Rattle.mds_commands.specs.declared.debug.Named.{Named}
use Rattle.mds_commands.specs.declared.debug.DebugProblem.{DebugProblem}
use Rattle.mds_commands.specs.declared.debug.DebugProblem.TheVariants.{BadIdentifier, NotInFile, Other}
use Rattle.mds_commands.specs.declared.problem.Problem.TheVariants.{CannotRead, NotATable, NotABatch, NotLines, Socket, Random, Output, Memory}
use Rattle.mds_commands.specs.Files.{Files, files_of}
use Rattle.mds_commands.specs.Change.{Change, change_of}
use Rattle.mds_commands.specs.Command.{status_on}
use Rattle.mds_io.specs.declared.page.PrintError.TheVariants as write
use Rattle.mds_trace.specs.Walk.{Walk}
use Rattle.mds_trace.specs.declared.line.CountsLine.{CountsLine}
use Rattle.mds_trace.proofs.WalkLemmas.{front_at_least}
use Rattle.mds_commands.specs.Debug.{DebugsFront, DebugWentOut, ExplainsDebug, IsOther}
use Rattle.mds_commands.proofs.debug.debug_to.Goals as goal

-- what went out where the output failed may also have gone out where memory is wanting
weaker : (walk : Walk) (counts : CountsLine) (input out : Change) → DebugsFront write.Device walk counts input out → DebugsFront write.Memory walk counts input out
weaker walk counts input out (inl start) = inl start
weaker walk counts input out (inr (start, prints, middle, began, (bytes, read, script, is, front))) =
    inr (start, prints, middle, began, inr (bytes, read, script, is, front_at_least write.Memory walk script middle out.after front))

module _ {T R : Type 0} (files : Files T R) (named : Named) where
  -- whatever the problem, nothing went out before it, or a front of what is printed
  out_before : (problem : DebugProblem) (input out : Change) → IsOther problem → DebugWentOut files named problem input out
      → DebugWentOut files named (Other Memory) input out
  out_before BadIdentifier input out other went = absurd other
  out_before NotInFile input out other went = absurd other
  out_before (Other (CannotRead path)) input out other went = inl went
  out_before (Other (NotATable fault)) input out other went = inl went
  out_before (Other (NotABatch fault)) input out other went = inl went
  out_before (Other (NotLines fault)) input out other went = inl went
  out_before (Other Socket) input out other went = inl went
  out_before (Other Random) input out other went = inl went
  out_before (Other Output) input out other went = inr (went.0, went.1, went.2, weaker went.0 went.1 input out went.3)
  out_before (Other Memory) input out other went = went

  -- where memory is wanting to tell a problem, that explains the want of memory as well
  explained_before : (problem : DebugProblem) → IsOther problem → ExplainsDebug files named problem
      → ExplainsDebug files named (Other Memory)
  explained_before BadIdentifier other why = absurd other
  explained_before NotInFile other why = absurd other
  explained_before (Other problem) other why = (why.0, tt)

pub returns-in-Ok : goal.returns-in-Ok
returns-in-Ok g c =
    let shown = c.in-Ok.ensures.ok in
    inl ((shown.0, shown.1, shown.2, shown.3, c.status_on.ensures ∙ ap status_on shown.4), Keeps-refl _)

pub returns-in-Err : goal.returns-in-Err
returns-in-Err g c =
    let failed = c.in-Err.ensures.err in
    elim c.tell_debug.ensures [
      | inl told ↦ inr (c.in-Err.problem, told.0, failed.0, failed.1, told.1)
      | inr told ↦ inr (
        Other Memory,
        told.1,
        explained_before (files_of g.T.Read.remaining c.args.table g.R.Read.remaining c.args.file) c.args.named c.in-Err.problem told.0 failed.0,
        out_before (files_of g.T.Read.remaining c.args.table g.R.Read.remaining c.args.file) c.args.named c.in-Err.problem
            (change_of (g.I.Read.remaining c.args.script.now) (g.I.Read.remaining c.debug_into.new.script))
            (change_of (g.W.Write.contents c.args.out.now) (g.W.Write.contents c.debug_into.new.out)) told.0 failed.1,
        told.2,
      )
    ]

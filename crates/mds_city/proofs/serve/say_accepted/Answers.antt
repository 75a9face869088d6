use Rattle.std.proofs.Common.{◌⊎◌, inl, inr, subst}
use Rattle.mds_io.specs.declared.page.PrintError.{PrintError}
use Rattle.mds_io.specs.declared.page.PrintError.TheVariants as write
use Rattle.mds_commands.specs.declared.problem.Problem.{Problem}
use Rattle.mds_commands.specs.declared.problem.Problem.TheVariants.{Output, Memory}
use Rattle.mds_commands.specs.declared.status.Status.{Status}
use Rattle.mds_commands.specs.Problem.{written_problem}
use Rattle.mds_commands.specs.Change.{Change, change_of}
use Rattle.mds_city.specs.Serve.{IsTold}
use Rattle.mds_city.proofs.serve.say_accepted.Goals as goal

-- a line that could not be printed is told as an output that failed, or as want of memory
of_line : (fault : PrintError) (ended : Status) (faults : Change) → IsTold (written_problem fault) ended faults
    → IsTold Output ended faults ⊎ IsTold Memory ended faults
of_line write.Memory ended faults told = inr told
of_line write.Device ended faults told = inl told

pub returns-in-Err : goal.returns-in-Err
returns-in-Err g c =
    let faults : Change = change_of (g.E.Write.contents c.args.faults.now) (g.E.Write.contents c.tell.new.faults) in
    inr (
      c.in-Err.ensures.err,
      elim c.tell.ensures [
        | inl told ↦ of_line c.in-Err.fault c.tell.result faults
            (subst (λ (problem : Problem). IsTold problem c.tell.result faults) c.from.ensures told)
        | inr told ↦ inr told
      ],
    )

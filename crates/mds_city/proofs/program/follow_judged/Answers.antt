use Rattle.std.proofs.Common.{inl, inr}
use Rattle.std.proofs.KnownBytes.{Keeps-refl}
use Rattle.mds_commands.specs.declared.problem.Problem.TheVariants.{Memory}
use Rattle.mds_commands.specs.declared.vehicles.problem.JournalProblem.TheVariants.{Other}
use Rattle.mds_city.specs.Host.{FileHost}
use Rattle.mds_city.proofs.ProgramLemmas.{memory_too}
use Rattle.mds_city.proofs.program.follow_judged.Goals as goal

pub returns-in-Ok : goal.returns-in-Ok
returns-in-Ok g c = inl (c.in-Ok.ensures.ok, c.follow_to.ensures)

pub returns-in-Err : goal.returns-in-Err
returns-in-Err g c =
    let files : FileHost _ = record { opens = g.O.Opens.opens c.args.files.now; bytes = g.O.File.Read.remaining } in
    inr (elim c.tell_journal_problem.ensures [
      | inl told ↦ (c.in-Err.problem, c.in-Err.ensures.err, Keeps-refl _, told.0, told.1)
      | inr told ↦ (Other Memory, memory_too files _ c.args.asked.old.now c.in-Err.problem c.in-Err.ensures.err, Keeps-refl _, told.0, told.1)
    ])

use Rattle.std.proofs.Common.{inl, inr, refl}
use Rattle.std.proofs.KnownBytes.{Keeps-refl}
use Rattle.mds_commands.specs.declared.problem.Problem.TheVariants.{Memory}
use Rattle.mds_commands.specs.declared.vehicles.problem.JournalProblem.TheVariants.{Other}
use Rattle.mds_city.specs.declared.compact.CompactProblem.TheVariants.{Journal}
use Rattle.mds_city.proofs.follow.follow_to.Goals as goal

pub returns-in-Ok : goal.returns-in-Ok
returns-in-Ok g c = inl (c.in-Ok.opened, c.in-Ok.ensures.ok, c.follow_opened.ensures)

pub returns-in-Err : goal.returns-in-Err
returns-in-Err g c =
    inr (
      Keeps-refl _,
      elim c.tell_compact_problem.ensures [
        | inl told ↦ (c.in-Err.problem, c.in-Err.ensures.err, told.0, told.1)
        | inr told ↦ (Journal (Other Memory), inl (inr refl), told.0, told.1)
      ],
    )

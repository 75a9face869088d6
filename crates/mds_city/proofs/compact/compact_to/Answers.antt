use Rattle.std.proofs.Common.{◌≡◌, ◌⊎◌, inl, inr, refl, subst}
use Rattle.std.proofs.KnownBytes.{Keeps-refl}
use Rattle.mds_io.specs.declared.page.PrintError.{PrintError}
use Rattle.mds_io.specs.declared.page.PrintError.TheVariants as write
use Rattle.mds_commands.specs.declared.problem.Problem.TheVariants.{Output, Memory}
use Rattle.mds_commands.specs.declared.vehicles.problem.JournalProblem.{JournalProblem}
use Rattle.mds_commands.specs.declared.vehicles.problem.JournalProblem.TheVariants.{Other}
use Rattle.mds_commands.specs.JournalProblem.{TellsJournal, journal_status_of}
use Rattle.mds_commands.specs.Problem.{written_problem}
use Rattle.mds_city.specs.declared.compact.CompactProblem.TheVariants.{Journal}
use Rattle.mds_city.proofs.compact.compact_to.Goals as goal

-- a line that could not be printed is told as an output that failed, or as want of memory
of_line : (fault : PrintError) → (Journal (Other (written_problem fault)) ≡ Journal (Other Output)) ⊎ (Journal (Other (written_problem fault)) ≡ Journal (Other Memory))
of_line write.Memory = inr refl
of_line write.Device = inl refl

pub returns-in-Ok-print_compacted : goal.returns-in-Ok-print_compacted
returns-in-Ok-print_compacted g c = inl (c.in-Ok.compacted, c.in-Ok.ensures.ok, refl, c.in-Ok-print_compacted.ensures.ok, Keeps-refl _)

pub returns-in-Ok : goal.returns-in-Ok
returns-in-Ok g c =
    let old = g.E.Write.contents c.args.faults.now in
    let new = g.E.Write.contents c.tell_journal_problem.new.faults in
    let IsTold : JournalProblem → Type 0 = λ problem. (c.tell_journal_problem.result ≡ journal_status_of problem) × TellsJournal old new problem in
    inr (inl (
      c.in-Ok.compacted,
      c.in-Ok.ensures.ok,
      c.in-Err-print_compacted.ensures.err,
      elim c.tell_journal_problem.ensures [
        | inl told ↦
            let line = subst IsTold c.from.ensures told in
            (Journal (Other (written_problem c.in-Err-print_compacted.fault)), of_line c.in-Err-print_compacted.fault, line.0, line.1)
        | inr told ↦ (Journal (Other Memory), inr refl, told.0, told.1)
      ],
    ))

pub returns : goal.returns
returns g c =
    inr (inr (elim c.tell_compact_problem.ensures [
      | inl told ↦ (c.in-Err.problem, c.in-Err.ensures.err, Keeps-refl _, told.0, told.1)
      | inr told ↦ (Journal (Other Memory), inl (inr refl), Keeps-refl _, told.0, told.1)
    ]))

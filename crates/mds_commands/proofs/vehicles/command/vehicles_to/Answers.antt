use Rattle.std.proofs.Common.{ℕ, List, Option, inl, inr}
use Rattle.mds_commands.specs.declared.source.Source.{Source}
use Rattle.mds_commands.specs.Files.{Files, files_of}
use Rattle.mds_commands.specs.declared.problem.Problem.TheVariants.{CannotRead, NotATable, NotABatch, NotLines, Socket, Random, Output, Memory}
use Rattle.mds_commands.specs.declared.vehicles.problem.JournalProblem.{JournalProblem}
use Rattle.mds_commands.specs.declared.vehicles.problem.JournalProblem.TheVariants.{NotAJournal, Other}
use Rattle.mds_commands.specs.Listing.{ListingWentOut}
use Rattle.mds_commands.proofs.vehicles.command.vehicles_to.Goals as goal

-- whatever the problem, nothing went out before it, or a front of the listing
out_before : {T R : Type 0} (files : Files T R) (again : Option (Source R))
    (problem : JournalProblem) (old new : Option (List ℕ)) → ListingWentOut files again problem old new
    → ListingWentOut files again (Other Memory) old new
out_before files again (NotAJournal fault) old new out = inl out
out_before files again (Other (CannotRead path)) old new out = inl out
out_before files again (Other (NotATable fault)) old new out = inl out
out_before files again (Other (NotABatch fault)) old new out = absurd out
out_before files again (Other (NotLines fault)) old new out = absurd out
out_before files again (Other Socket) old new out = absurd out
out_before files again (Other Random) old new out = inl out
out_before files again (Other Output) old new out = inr out
out_before files again (Other Memory) old new out = out

pub returns-in-Err : goal.returns-in-Err
returns-in-Err g c =
    let failed = c.in-Err.ensures.err in
    elim c.tell_journal_problem.ensures [
      | inl told ↦ inr (c.in-Err.problem, told.0, failed.0, failed.1, told.1)
      | inr told ↦ inr (
        Other Memory,
        told.0,
        inl tt,
        out_before (files_of g.T.Read.remaining c.args.table g.R.Read.remaining c.args.file) c.args.again c.in-Err.problem (g.W.Write.contents c.args.out.now) (g.W.Write.contents c.vehicles_into.new.out) failed.1,
        told.1,
      )
    ]

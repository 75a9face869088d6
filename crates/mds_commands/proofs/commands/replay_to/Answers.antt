use Rattle.std.proofs.Common.{◌≡◌, ℕ, List, Option, inl, inr, ap, ◌∙◌}
use Rattle.std.proofs.KnownBytes.{Keeps-refl}
use Rattle.mds_commands.specs.declared.commands.ReplayOptions.{ReplayOptions}
use Rattle.mds_commands.specs.Files.{Files, files_of}
use Rattle.mds_commands.specs.declared.problem.Problem.{Problem}
use Rattle.mds_commands.specs.declared.problem.Problem.TheVariants.{CannotRead, NotATable, NotABatch, NotLines, Socket, Random, Output, Memory}
use Rattle.mds_commands.specs.Command.{WentOut, status_on}
use Rattle.mds_commands.proofs.commands.replay_to.Goals as goal

-- whatever the problem, nothing went out before it, or a front of the report's text
out_before : {T R : Type 0} (options : ReplayOptions) (files : Files T R)
    (problem : Problem) (old new : Option (List ℕ)) → WentOut options files problem old new → WentOut options files Memory old new
out_before options files (CannotRead path) old new out = inl out
out_before options files (NotATable fault) old new out = inl out
out_before options files (NotABatch fault) old new out = inl out
out_before options files (NotLines fault) old new out = inl out
out_before options files Socket old new out = absurd out
out_before options files Random old new out = absurd out
out_before options files Output old new out = inr out
out_before options files Memory old new out = out

pub returns-in-Ok : goal.returns-in-Ok
returns-in-Ok g c =
    let done = c.in-Ok.ensures.ok in
    let same : c.in-Ok.refused ≡ done.0.refused = done.3 in
    inl ((done.0, done.1, done.2, c.status_on.ensures ∙ ap status_on same), Keeps-refl _)

pub returns-in-Err : goal.returns-in-Err
returns-in-Err g c =
    let failed = c.in-Err.ensures.err in
    elim c.tell.ensures [
      | inl told ↦ inr (c.in-Err.problem, told.0, failed.0, failed.1, told.1)
      | inr told ↦ inr (
        Memory,
        told.0,
        tt,
        out_before c.args.options (files_of g.T.Read.remaining c.args.table g.R.Read.remaining c.args.file) c.in-Err.problem
            (g.W.Write.contents c.args.out.now) (g.W.Write.contents c.replay_into.new.out) failed.1,
        told.1,
      )
    ]

use Rattle.std.proofs.Common.{ℕ, List, Option, inl, inr}
use Rattle.mds_commands.specs.declared.source.Source.{Source}
use Rattle.mds_commands.specs.declared.problem.Problem.{Problem}
use Rattle.mds_commands.specs.declared.problem.Problem.TheVariants.{CannotRead, NotATable, NotABatch, NotLines, Socket, Random, Output, Memory}
use Rattle.mds_commands.specs.Command.{TableWentOut}
use Rattle.mds_commands.proofs.commands.table_to.Goals as goal

-- whatever the problem, nothing went out before it, or a front of the table's text
out_before : {T : Type 0} (table_bytes : T → Option (List ℕ)) (table : Option (Source T)) (problem : Problem) (old new : Option (List ℕ))
    → TableWentOut table_bytes table problem old new → TableWentOut table_bytes table Memory old new
out_before table_bytes table (CannotRead path) old new out = inl out
out_before table_bytes table (NotATable fault) old new out = inl out
out_before table_bytes table (NotABatch fault) old new out = inl out
out_before table_bytes table (NotLines fault) old new out = inl out
out_before table_bytes table Socket old new out = absurd out
out_before table_bytes table Random old new out = absurd out
out_before table_bytes table Output old new out = inr out
out_before table_bytes table Memory old new out = out

pub returns-in-Err : goal.returns-in-Err
returns-in-Err g c =
    let failed = c.in-Err.ensures.err in
    elim c.tell.ensures [
      | inl told ↦ inr (c.in-Err.problem, told.0, failed.0, failed.1, told.1)
      | inr told ↦ inr (
        Memory,
        told.0,
        tt,
        out_before g.T.Read.remaining c.args.table c.in-Err.problem (g.W.Write.contents c.args.out.now) (g.W.Write.contents c.table_into.new.out) failed.1,
        told.1,
      )
    ]

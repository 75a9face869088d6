use Rattle.std.proofs.Common.{ℕ, List, Option, subst, sym}
use Rattle.std.proofs.lemmas.Result.{IfErr-weaker, IfOk-weaker}
use Rattle.mds_table.specs.TimedFile.{HasTables, HasTablesFault}
use Rattle.mds_table.specs.declared.tables_fault.TablesFault.{TablesFault}
use Rattle.mds_table.specs.declared.tables_fault.TablesFault.TheVariants.{Memory}
use Rattle.mds_commands.specs.declared.source.Source.{Source}
use Rattle.mds_commands.specs.declared.problem.Problem.{Problem}
use Rattle.mds_commands.specs.Problem.{table_problem}
use Rattle.mds_commands.specs.Source.{ExplainsTableFile, HasBytes, HasTablesOf, IsTableProblem}
use Rattle.mds_commands.proofs.source.tables_of_file.Goals as goal

-- a fault of the file's bytes explains the problem that is made of it
explained : {R : Type 0} (remaining : R → Option (List ℕ)) (source : Source R) (bytes : List ℕ) (fault : TablesFault) → HasBytes remaining source bytes
    → HasTablesFault bytes fault → ExplainsTableFile remaining source (table_problem fault)
explained remaining source bytes Memory has wrong = (has.0, has.1)
explained remaining source bytes fault has wrong = ((λ same. cc), bytes, has, wrong)

-- and so does the problem that its bytes are
of_bytes : {R : Type 0} (remaining : R → Option (List ℕ)) (source : Source R) (bytes : List ℕ) (problem : Problem) → HasBytes remaining source bytes
    → IsTableProblem bytes problem → ExplainsTableFile remaining source problem
of_bytes remaining source bytes problem has is =
    subst (ExplainsTableFile remaining source) (sym is.2) (explained remaining source bytes is.0 has is.1)

pub returns-clause-ok : goal.returns-clause-ok
returns-clause-ok g c =
    let bytes = c.in_ok-bytes.bytes.items in
    IfOk-weaker c.tables_of_bytes.result (HasTables bytes) (HasTablesOf g.T.Read.remaining c.args.source)
    (λ tables has. (bytes, c.in_ok-bytes.ensures.ok, has))
    (rw c.deref.ensures.value at c.tables_of_bytes.ensures.tables)

pub returns-clause-err : goal.returns-clause-err
returns-clause-err g c =
    let bytes = c.in_ok-bytes.bytes.items in
    IfErr-weaker c.tables_of_bytes.result (IsTableProblem bytes) (ExplainsTableFile g.T.Read.remaining c.args.source)
    (λ problem is. of_bytes g.T.Read.remaining c.args.source bytes problem c.in_ok-bytes.ensures.ok is)
    (rw c.deref.ensures.value at c.tables_of_bytes.ensures.fault)

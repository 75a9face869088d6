use Rattle.std.proofs.Common.{inr}
use Rattle.std.proofs.lemmas.Result.{IfOk-weaker, IfErr-weaker}
use Rattle.mds_table.specs.Tables.{Tables}
use Rattle.mds_commands.specs.Files.{Files, files_of}
use Rattle.mds_commands.specs.Listing.{ExplainsJournal, ExplainsJudging}
use Rattle.mds_commands.specs.Source.{HasTablesIn}
use Rattle.mds_commands.specs.declared.problem.Problem.TheVariants.{CannotRead, NotATable, NotABatch, NotLines, Socket, Random, Output, Memory}
use Rattle.mds_commands.specs.declared.vehicles.problem.JournalProblem.{JournalProblem}
use Rattle.mds_commands.specs.declared.vehicles.problem.JournalProblem.TheVariants.{NotAJournal, Other}
use Rattle.mds_commands.proofs.vehicles.command.taken_over.Goals as goal

-- a problem of the journal is one of the listing, and not of its output
explained : {T R : Type 0} (files : Files T R) (tables : Tables) (problem : JournalProblem) → HasTablesIn files.table_bytes files.table tables
    → ExplainsJournal files.file_bytes files.file tables problem → ExplainsJudging files problem
explained files tables (NotAJournal fault) has why = ((tables, has, why), λ is. cc)
explained files tables (Other (CannotRead path)) has why = (inr (tables, has, why), λ is. cc)
explained files tables (Other (NotATable fault)) has why = absurd why
explained files tables (Other (NotABatch fault)) has why = absurd why
explained files tables (Other (NotLines fault)) has why = absurd why
explained files tables (Other Socket) has why = absurd why
explained files tables (Other Random) has why = absurd why
explained files tables (Other Output) has why = absurd why
explained files tables (Other Memory) has why = (tt, λ is. cc)

pub returns-clause-ok : goal.returns-clause-ok
returns-clause-ok g c =
    IfOk-weaker c.taken_in.result _ _ (λ taken is. (c.in_ok-tables.tables, c.in_ok-tables.ensures.ok, is)) c.taken_in.ensures.ok

pub returns-clause-err : goal.returns-clause-err
returns-clause-err g c =
    IfErr-weaker c.taken_in.result _ _
    (λ problem why. explained (files_of g.T.Read.remaining c.args.table g.R.Read.remaining c.args.file) c.in_ok-tables.tables problem c.in_ok-tables.ensures.ok why)
    c.taken_in.ensures.err

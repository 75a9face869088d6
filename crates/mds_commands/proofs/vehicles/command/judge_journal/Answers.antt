use Rattle.mds_commands.specs.Files.{files_of}
use Rattle.mds_commands.proofs.ListingLemmas.{came_to_history}
use Rattle.mds_commands.proofs.vehicles.command.judge_journal.Goals as goal

pub returns-clause-ok : goal.returns-clause-ok
returns-clause-ok g c =
    came_to_history (files_of g.T.Read.remaining c.args.table g.R.Read.remaining c.args.file) c.in_ok-taken_over.field-0 c.in_ok-taken_over.ensures.ok

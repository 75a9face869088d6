use Rattle.std.proofs.Common.{◌∙◌}
use Rattle.mds_commands.proofs.commands.report_of_batch.Goals as goal

pub returns-clause-ok : goal.returns-clause-ok
returns-clause-ok g c =
    let fed = c.in_ok-each_item_in.ensures.ok in
    let tables = fed.2.0 ∙ c.open-replayer.ensures.tables in
    let opening = fed.2.1 ∙ c.open-replayer.ensures.opening in
    let report = c.in_ok-finish.ensures.report fed.0 fed.2.2 in
    let runs = c.in_ok-finish.ensures.runs fed.0 fed.2.2 in
    (fed.0, fed.1, rw (tables, opening) at report, rw (tables, opening) at runs)

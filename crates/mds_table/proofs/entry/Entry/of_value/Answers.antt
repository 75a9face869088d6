use Rattle.std.proofs.Common.{sym}
use Rattle.mds_table.proofs.Marks.{entry_of}
use Rattle.mds_table.proofs.entry.Entry.of_value.Goals as goal

pub returns-clause-rows : goal.returns-clause-rows
returns-clause-rows c =
    entry_of _ _ _ _ _ (sym c.in_ok-get.ensures) (sym c.in_ok-get-2.ensures) (sym c.in_ok-get-3.ensures) c.in_ok-from.ensures.states c.in_ok-kind.ensures c.in_ok-to.ensures.states

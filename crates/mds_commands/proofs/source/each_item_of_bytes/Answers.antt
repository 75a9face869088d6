use Rattle.std.proofs.Common.{refl}
use Rattle.mds_commands.proofs.ErrorLemmas.{passed_on}
use Rattle.mds_commands.proofs.source.each_item_of_bytes.Goals as goal

pub returns-in_err-each_event-clause-fault : goal.returns-in_err-each_event-clause-fault
returns-in_err-each_event-clause-fault g c =
    passed_on _ _ _ c.from_residual.ensures.1 (c.in_err-each_event.field-0.0, c.in_err-each_event.ensures.fault, refl)

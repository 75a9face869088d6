use Rattle.std.proofs.Common.{refl}
use Rattle.mds_commands.proofs.ErrorLemmas.{passed_on}
use Rattle.mds_commands.proofs.source.items_of_bytes.Goals as goal

pub returns-in_err-read_event_items_by-clause-fault : goal.returns-in_err-read_event_items_by-clause-fault
returns-in_err-read_event_items_by-clause-fault g c =
    passed_on _ _ _ c.from_residual.ensures.1 (c.in_err-read_event_items_by.field-0.0, c.in_err-read_event_items_by.ensures.fault, refl)

use Rattle.std.proofs.Common.{subst}
use Rattle.mds_core.specs.declared.request.Request.{Request}
use Rattle.mds_entries.specs.Entry.{Tells}
use Rattle.mds_entries.proofs.PlaceLemmas.{told_is_placed}
use Rattle.mds_entries.proofs.whole.is_whole.Goals as goal

pub returns-in-Report-clause-told : goal.returns-in-Report-clause-told
returns-in-Report-clause-told c line tells =
    let told = subst (λ (request : Request). Tells line request) c.in-Report.is tells in
    c.is_whole_event.ensures.place (told_is_placed line c.in-Report.event told)

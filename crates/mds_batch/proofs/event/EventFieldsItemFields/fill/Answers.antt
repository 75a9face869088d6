use Rattle.serde_json.specs.Data.{object}
use Rattle.mds_batch.proofs.MemberLemmas.{may_be_reported}
use Rattle.mds_batch.proofs.event.EventFieldsItemFields.fill.Goals as goal

pub put_event-requires : goal.put_event-requires
put_event-requires c =
    let is = c.in-Ok.ensures.event c.requires.0 c.requires.1 in
    rw c.names.ensures (may_be_reported (object c.requires.0) _ _ is.types is.time)

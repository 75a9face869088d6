use Rattle.std.proofs.Common.{rules}
use Rattle.mds_face.specs.Exchange.{record_rules_of, rules_of}
use Rattle.mds_face.proofs.KeptLemmas.{stops_unwritten_kept}
use Rattle.mds_face.proofs.kept_desk.answer_kept.Goals as goal

pub returns-clause-stopped : goal.returns-clause-stopped
returns-clause-stopped g c =
    stops_unwritten_kept (rules_of g.D.Desk.calls g.D.Desk.gives_events g.D.Desk.gives_rows) (record_rules_of g.D.KeptDesk.is_kept g.D.KeptDesk.keeps) _ _ _ _ c.in-Err-write_kept.fault
    c.in-Ok.ensures.finds
    (rw (c.deref.ensures.value, c.in-Ok-answer_bytes.ensures.bytes) at c.in-Err-write_kept.ensures.err)
    (search rules)

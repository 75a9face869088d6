use Rattle.mds_http.specs.Asked.{asked_in}
use Rattle.mds_face.specs.Exchange.{exchange_of, record_rules_of, rules_of}
use Rattle.mds_face.proofs.KeptLemmas.{serves_kept, stops_kept}
use Rattle.mds_face.proofs.kept_desk.serve_kept.Goals as goal

pub returns-in-Ok-clause-served : goal.returns-in-Ok-clause-served
returns-in-Ok-clause-served g c =
    serves_kept (rules_of g.D.Desk.calls g.D.Desk.gives_events g.D.Desk.gives_rows) (record_rules_of g.D.KeptDesk.is_kept g.D.KeptDesk.keeps) (g.R.Read.remaining c.args.reader.now) (asked_in c.in-Ok.plan)
    (exchange_of c.args.desk.now c.answer_kept.new.desk (g.W.Write.contents c.args.writer.now) (g.W.Write.contents c.answer_kept.new.writer))
    c.answer_kept.result c.in-Ok.ensures.plan c.answer_kept.ensures.answered

pub returns-in-Ok-clause-stopped : goal.returns-in-Ok-clause-stopped
returns-in-Ok-clause-stopped g c =
    stops_kept (rules_of g.D.Desk.calls g.D.Desk.gives_events g.D.Desk.gives_rows) (record_rules_of g.D.KeptDesk.is_kept g.D.KeptDesk.keeps) (g.R.Read.remaining c.args.reader.now) (asked_in c.in-Ok.plan)
    (exchange_of c.args.desk.now c.answer_kept.new.desk (g.W.Write.contents c.args.writer.now) (g.W.Write.contents c.answer_kept.new.writer))
    c.answer_kept.result c.in-Ok.ensures.plan c.answer_kept.ensures.stopped

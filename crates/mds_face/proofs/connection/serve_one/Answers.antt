use Rattle.mds_http.specs.Asked.{asked_in}
use Rattle.mds_face.specs.Exchange.{exchange_of, rules_of}
use Rattle.mds_face.proofs.ConnectionLemmas.{serves, stops}
use Rattle.mds_face.proofs.connection.serve_one.Goals as goal

pub returns-in-Ok-clause-served : goal.returns-in-Ok-clause-served
returns-in-Ok-clause-served g c =
    serves (rules_of g.D.Desk.calls g.D.Desk.gives_events g.D.Desk.gives_rows) (g.R.Read.remaining c.args.reader.now) (asked_in c.in-Ok.plan)
    (exchange_of c.args.desk.now c.answer.new.desk (g.W.Write.contents c.args.writer.now) (g.W.Write.contents c.answer.new.writer))
    c.answer.result c.in-Ok.ensures.plan c.answer.ensures.answered

pub returns-in-Ok-clause-stopped : goal.returns-in-Ok-clause-stopped
returns-in-Ok-clause-stopped g c =
    stops (rules_of g.D.Desk.calls g.D.Desk.gives_events g.D.Desk.gives_rows) (g.R.Read.remaining c.args.reader.now) (asked_in c.in-Ok.plan)
    (exchange_of c.args.desk.now c.answer.new.desk (g.W.Write.contents c.args.writer.now) (g.W.Write.contents c.answer.new.writer))
    c.answer.result c.in-Ok.ensures.plan c.answer.ensures.stopped

use Rattle.mds_face.specs.Exchange.{record_rules_of, rules_of}
use Rattle.mds_face.proofs.KeptLemmas.{stops_whole_kept}
use Rattle.mds_pool.proofs.Unread.{reads_nothing}
use Rattle.mds_pool.proofs.answering.Connection.answer_at.Goals as goal
use Rattle.mds_pool.proofs.answering.Connection.answer_at.Goals.{in-Some, in-None}

pub returns-clause-no_further : goal.returns-clause-no_further
returns-clause-no_further g c =
    elim c.match-whole_of.branch [
      | in-Some w ↦ rw w.input-is (reads_nothing (g.P.In.Read.remaining c.args.self.input))
      | in-None w ↦ rw w.input-is w.serve_kept-served.ensures.no_further
    ]

pub returns-clause-stopped : goal.returns-clause-stopped
returns-clause-stopped g c =
    elim c.match-whole_of.branch [
      | in-Some w ↦
          rw (w.served-is, w.desk-is, w.output-is, w.in-Some.ensures.bytes)
          (stops_whole_kept (rules_of g.D.Desk.calls g.D.Desk.gives_events g.D.Desk.gives_rows) (record_rules_of g.D.KeptDesk.is_kept g.D.KeptDesk.keeps) _ _
          w.serve_whole-served.result w.serve_whole-served.ensures.stopped)
      | in-None w ↦ rw (w.served-is, w.desk-is, w.output-is) w.serve_kept-served.ensures.stopped
    ]

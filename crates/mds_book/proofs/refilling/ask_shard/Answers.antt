use Rattle.std.proofs.Common.{◌+◌, List, arith, subst, take_all}
use Rattle.mds_core.specs.declared.request.Request.{Request}
use Rattle.mds_log.specs.Log.{requests}
use Rattle.mds_book.specs.Refilling.{AreAccepted}
use Rattle.mds_book.proofs.NotesTold.{told_shard}
use Rattle.mds_book.proofs.Refills.{accepted_more, asks_all, asks_more, part_more, refused_at}
use Rattle.mds_book.proofs.refilling.ask_shard.Goals as goal

-- the request at which it stops isn't seen, nor is what comes behind it
pub returns-in-Err-clause-asked : goal.returns-in-Err-clause-asked
returns-in-Err-clause-asked g c =
    let was = c.loop-request.invariant in
    let all = c.args.requests.now in
    let index = c.loop-request.request-index in
    let request = c.request-item.result in
    let more = part_more g.row.N index all request c.loop-request-test.true c.request-item.is in
    record {
      asks = asks_all (index + 1) (asks_more more was.asks c.ask_again.ensures.asks);
      of_shard = told_shard g.F.NoteForm.tells c.ask_again.new.part g.met.F.NoteForm.of_shard c.ask_again.ensures.kept;
      accepted = tt;
      refused = λ why.
          refused_at g.L.NamedLedger.tables g.row.N (requests c.args.part.now.sight.seen) (requests c.loop-request.part.sight.seen) all index c.loop-request.at request
          c.loop-request-test.true c.request-item.is was.at was.accepted.seen (c.in-Err.ensures.refused (cc (why)));
      within = omega (arith, was.at, c.loop-request-test.true);
    }

-- one request more is asked
pub loop-request-preserved : goal.loop-request-preserved
loop-request-preserved g c =
    let was = c.loop-request.invariant in
    let more = part_more g.row.N c.loop-request.request-index c.args.requests.now c.request-item.result c.loop-request-test.true c.request-item.is in
    record {
      kept = c.ask_again.ensures.kept;
      asks = asks_more more was.asks c.ask_again.ensures.asks;
      accepted = accepted_more more was.accepted c.in-Ok.ensures.accepted;
      at = omega (arith, was.at);
    }

-- all of them are
pub returns-clause-asked : goal.returns-clause-asked
returns-clause-asked g c =
    let was = c.loop-request.invariant in
    let all = c.args.requests.now in
    let index = c.loop-request.request-index in
    let Accepted : List Request → Type 0 = λ w. AreAccepted g.row.N c.args.part.now w c.loop-request.part in
    record {
      asks = asks_all index was.asks;
      of_shard = told_shard g.F.NoteForm.tells c.loop-request.part g.met.F.NoteForm.of_shard was.kept;
      accepted = subst Accepted (take_all index all (omega (arith, c.loop-request-test.false))) was.accepted;
      refused = tt;
      within = tt;
    }

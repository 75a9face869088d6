use Rattle.std.proofs.Common.{◌∙◌, ap, sym}
use Rattle.mds_log.specs.Log.{requests}
use Rattle.mds_book.specs.Shards.{shard_of}
use Rattle.mds_book.proofs.Refills.{accepted_again, asks_called, refused_again, refused_alone}
use Rattle.mds_book.proofs.refilling.ask_again.Goals as goal

-- another has asked meanwhile
pub returns-then-reply-expected-clause-kept : goal.returns-then-reply-expected-clause-kept
returns-then-reply-expected-clause-kept g c = (asks_called (sym (c.shard_of.ensures.number ∙ ap shard_of c.key.ensures) ∙ c.if-shard_of.false) c.in-Ok.ensures.stepped c.in-Ok.ensures.noted c.requires.kept).0

pub returns-then-reply-expected-clause-asks : goal.returns-then-reply-expected-clause-asks
returns-then-reply-expected-clause-asks g c = (asks_called (sym (c.shard_of.ensures.number ∙ ap shard_of c.key.ensures) ∙ c.if-shard_of.false) c.in-Ok.ensures.stepped c.in-Ok.ensures.noted c.requires.kept).1

-- what wasn't accepted may not be
pub returns-in_default-outcome : goal.returns-in_default-outcome
returns-in_default-outcome g c =
    let here = sym (c.shard_of.ensures.number ∙ ap shard_of c.key.ensures) ∙ c.if-shard_of.false in
    let asked = asks_called here c.in-Ok.ensures.stepped c.in-Ok.ensures.noted c.requires.kept in
    record {
      kept = asked.0;
      asks = asked.1;
      accepted = tt;
      refused = λ why.
          refused_alone g.L.NamedLedger.tables g.row.N (requests c.args.part.now.sight.seen) c.args.request.now here
          (refused_again c.in-Ok.ensures.stepped c.requires.all (c.if-reply-expected.false ∙ c.count-expected.ensures) c.in_default-outcome.not-Done);
    }

-- what was is seen, and noted
pub returns-clause-kept : goal.returns-clause-kept
returns-clause-kept g c = (asks_called (sym (c.shard_of.ensures.number ∙ ap shard_of c.key.ensures) ∙ c.if-shard_of.false) c.in-Ok.ensures.stepped c.in-Ok.ensures.noted c.requires.kept).0

pub returns-clause-asks : goal.returns-clause-asks
returns-clause-asks g c = (asks_called (sym (c.shard_of.ensures.number ∙ ap shard_of c.key.ensures) ∙ c.if-shard_of.false) c.in-Ok.ensures.stepped c.in-Ok.ensures.noted c.requires.kept).1

pub returns-clause-accepted : goal.returns-clause-accepted
returns-clause-accepted g c =
    accepted_again c.in-Ok.ensures.stepped c.requires.all (c.if-reply-expected.false ∙ c.count-expected.ensures) (sym (c.shard_of.ensures.number ∙ ap shard_of c.key.ensures) ∙ c.if-shard_of.false) c.in-Done.is

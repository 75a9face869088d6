use Rattle.std.proofs.Common.{arith}
use Rattle.mds_face.proofs.CallLemmas.{turns, stops, ends}
use Rattle.mds_face.proofs.asking.ask_all.Goals as goal

pub returns-in_default-clause-calls : goal.returns-in_default-clause-calls
returns-in_default-clause-calls g c =
    stops g.D.Desk.calls c.args.desk.now g.I.BatchItems.asked (g.I.BatchItems.items c.args.items.now) c.loop-at.desk c.ask_one.new.desk c.loop-at.at
    c.loop-at.replies.items c.ask_one.new.replies.items c.loop-at.invariant.calls c.in_default.ensures.err

pub loop-at-preserved : goal.loop-at-preserved
loop-at-preserved g c = record {
  calls = turns g.D.Desk.calls c.args.desk.now g.I.BatchItems.asked (g.I.BatchItems.items c.args.items.now) c.loop-at.desk c.ask_one.new.desk c.loop-at.at
      c.loop-at.replies.items c.ask_one.new.replies.items c.loop-at.invariant.calls c.in-Ok.ensures.ok;
  count = c.loop-at.invariant.count;
  room = omega (arith, c.loop-at.invariant.room, c.ask_one.ensures.capacity);
  filled = omega (arith, c.loop-at.invariant.filled, c.ask_one.ensures.len);
}

pub returns-clause-calls : goal.returns-clause-calls
returns-clause-calls g c =
    ends g.D.Desk.calls c.args.desk.now g.I.BatchItems.asked (g.I.BatchItems.items c.args.items.now) c.loop-at.desk c.loop-at.at c.loop-at.replies.items
    (omega (arith, c.loop-at-test.false, c.loop-at.invariant.count)) c.loop-at.invariant.calls

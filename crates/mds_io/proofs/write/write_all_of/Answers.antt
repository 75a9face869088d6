use Rattle.std.proofs.Common.{arith, length-drop}
use Rattle.mds_io.proofs.WriteLemmas.{appends_next}
use Rattle.mds_io.proofs.write.write_all_of.Goals as goal

pub loop-sent-preserved-in-Moved : goal.loop-sent-preserved-in-Moved
loop-sent-preserved-in-Moved g c = record {
  within = omega (arith, c.in-Moved.ensures.1, length-drop c.loop-sent.sent c.args.bytes.now);
  went = appends_next _ _ _ _ _ _ c.loop-sent.invariant.went c.in-Moved.ensures.2;
  counted = omega (arith, c.loop-sent.invariant.counted);
  spent = λ _. omega (arith, c.loop-sent.invariant.counted);
}

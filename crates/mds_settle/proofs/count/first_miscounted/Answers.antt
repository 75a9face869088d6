use Rattle.std.proofs.Common.{arith}
use Rattle.mds_settle.proofs.Counts.{all_once}
use Rattle.mds_settle.proofs.count.first_miscounted.Goals as goal

pub returns-then-place-end : goal.returns-then-place-end
returns-then-place-end g c = λ q less.
    all_once c.args.shard c.walk_length-place.result g.S.NoteList.seen c.args.lists.now c.walk_length-place.ensures.found (c.are_few.ensures.0 c.if-not-are_few.false) q
    (omega arith)

pub returns-then-not-is_once : goal.returns-then-not-is_once
returns-then-not-is_once g c = record {
  within = omega arith;
  miscounted = λ one. let is = c.is_once.ensures.1 one in let isnt = c.if-not-is_once.true in cc;
  before = all_once c.args.shard c.walk_length-place.result g.S.NoteList.seen c.args.lists.now c.walk_length-place.ensures.found (c.are_few.ensures.0 c.if-not-are_few.false);
}

use Rattle.std.proofs.Common.{arith}
use Rattle.mds_settle.proofs.Counts.{some_end, none_below, twice_here}
use Rattle.mds_settle.proofs.count.first_twice.Goals as goal

pub loop-many-init : goal.loop-many-init
loop-many-init g c = record {
  apart = some_end c.args.shard c.args.end g.S.NoteList.seen c.args.lists.now c.requires.many;
  within = omega arith;
  few = omega (arith, none_below c.args.shard g.S.NoteList.seen c.args.lists.now);
  many = c.requires.many;
}

pub returns : goal.returns
returns g c =
    let before = c.loop-many.invariant in
    twice_here c.args.shard c.loop-many.few c.loop-many.many c.args.end g.S.NoteList.seen c.args.lists.now c.requires.found before.apart (omega arith) before.within before.few before.many

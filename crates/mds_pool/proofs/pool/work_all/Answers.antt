use Rattle.std.proofs.Common.{◌≡◌, length, rules}
use Rattle.mds_pool.proofs.Places.{zip_by_place}
use Rattle.mds_pool.proofs.pool.work_all.Goals as goal

pub returns : goal.returns
returns g c =
    let same : length c.for_each_mut.new.s ≡ length c.args.workers.now = search rules in
    zip_by_place (g.W.Works.worked c.args.each) c.args.workers.now c.for_each_mut.new.s same (λ i d within.
    let changed = (c.for_each_mut.ensures i d within).1 in
    let worked : g.W.Works.worked c.args.each changed.argument.now changed.after_call.now = changed.call in
    rw (← changed.argument_is, ← changed.left) worked)

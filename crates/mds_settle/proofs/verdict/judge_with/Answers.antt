use Rattle.mds_settle.specs.Bounds.{AreOnceBelow, end_by}
use Rattle.mds_settle.proofs.Judged.{IsFine, fine_below, at_miscounted, at_bound, settled}
use Rattle.std.proofs.Common.{ℕ, Option, subst, length}
use Rattle.mds_settle.proofs.verdict.judge_with.Goals as goal

pub returns-in-Some : goal.returns-in-Some
returns-in-Some g c =
    let tables = c.args.tables.now in
    let shard = c.args.shard in
    let history = c.args.history.now in
    let seen = g.S.NoteList.seen in
    let lists = c.args.lists.now in
    let bound = c.lowered_by_orders-late.result in
    let fine = fine_below tables shard history seen lists c.lowered_by_lists-wrong.result bound c.lowered_by_lists-wrong.ensures c.lowered_by_orders-late.ensures in
    at_miscounted tables shard history seen lists bound c.in-Some.place fine (rw (← c.end_of-end.ensures) c.in-Some.ensures)

pub returns-in-Some-late : goal.returns-in-Some-late
returns-in-Some-late g c =
    at_bound c.args.tables.now c.args.shard c.args.history.now g.S.NoteList.seen c.args.lists.now c.lowered_by_lists-wrong.result c.lowered_by_orders-late.result
    c.in-Some-late.place c.lowered_by_lists-wrong.ensures c.lowered_by_orders-late.ensures (rw (← c.end_of-end.ensures) c.in-None.ensures) c.in-Some-late.is

pub returns-in-None-late : goal.returns-in-None-late
returns-in-None-late g c =
    let tables = c.args.tables.now in
    let shard = c.args.shard in
    let history = c.args.history.now in
    let seen = g.S.NoteList.seen in
    let lists = c.args.lists.now in
    let bound = c.lowered_by_orders-late.result in
    let fine = fine_below tables shard history seen lists c.lowered_by_lists-wrong.result bound c.lowered_by_lists-wrong.ensures c.lowered_by_orders-late.ensures in
    let counted : AreOnceBelow shard (end_by bound (length history)) seen lists = rw (← c.end_of-end.ensures) c.in-None.ensures in
    let Fine : Option ℕ → Type 0 = λ r. IsFine tables shard history seen lists r in
    let Counted : Option ℕ → Type 0 = λ r. AreOnceBelow shard (end_by r (length history)) seen lists in
    settled tables shard history seen lists (subst Fine c.in-None-late.is fine) (subst Counted c.in-None-late.is counted)

use Rattle.std.proofs.Common.{◌∙◌}
use Rattle.std.proofs.lemmas.Slice.{between_from_start}
use Rattle.mds_settle.proofs.Entries.{answered_exactly}
use Rattle.mds_settle.proofs.truth.has_right_reply.Goals as goal

pub returns-in-Some : goal.returns-in-Some
returns-in-Some c =
    let found = c.in-Some.ensures.lookup.0 in
    let history = c.args.history.now in
    let note = c.args.note.now in
    answered_exactly c.args.tables.now history c.in-Some.before.now note c.answer.result c.is_same_reply.result found.1
    (found.2 ∙ between_from_start history note.reply.place) c.answer.ensures c.is_same_reply.ensures

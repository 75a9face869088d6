use Rattle.std.proofs.Common.{◌≡◌, ◌∙◌, true, sym}
use Rattle.mds_core.specs.Headline.{is_done}
use Rattle.mds_settle.proofs.Entries.{stored_is_answered}
use Rattle.mds_settle.proofs.truth.is_true.Goals as goal

pub returns-then-lawful-clause-yes : goal.returns-then-lawful-clause-yes
returns-then-lawful-clause-yes c _ =
    let done : is_done c.args.note.now.reply.outcome ≡ true = sym c.is_done.ensures ∙ c.if-is_done.true in
    let stored = c.is_stored.ensures.0 c.if-not-is_stored.false in
    record { answered = stored_is_answered c.args.tables.now c.args.history.now c.args.note.now (c.requires c.if-lawful.true) done stored; stored = λ _. stored }

use Rattle.std.proofs.Common.{◌≡◌, ◌||◌, true, false, sym, ap, subst, ◌∙◌, List, ℕ}
use Rattle.std.specs.List.{All}
use Rattle.std.proofs.lemmas.List.Elements.{All-push}
use Rattle.mds_core.specs.Headline.{is_done}
use Rattle.mds_settle.specs.declared.note.Note.{Note}
use Rattle.mds_book.proofs.NotesTold.{noted_none, noted_one}
use Rattle.mds_book.proofs.notes.note_call.Goals as goal

-- a call that isn't noted
pub returns-then-not-is_noted : goal.returns-then-not-is_noted
returns-then-not-is_noted g c =
    let not : (c.args.keeps_all || is_done c.args.reply.now.outcome) ≡ false = cc in
    record { noted = noted_none g.N.NoteForm.number g.N.NoteForm.tells g.N.NoteForm.is_within c.args.keeps_all c.args.request.now c.args.reply.now c.args.notes.now.list _ g.met.N.NoteForm.stays not (λ i. c.args.notes.now.list) }

-- its note stands behind the others
pub returns : goal.returns
returns g c =
    let With : ℕ → Note = λ n. record { shard = n; request = c.args.request.now; reply = c.args.reply.now } in
    let is : (c.args.keeps_all || is_done c.args.reply.now.outcome) ≡ true = cc in
    record {
      noted = noted_one g.N.NoteForm.number g.N.NoteForm.tells g.N.NoteForm.is_within c.args.keeps_all c.args.request.now c.args.reply.now c.args.notes.now.list _ c.put-note.result g.met.N.NoteForm.stays is
          c.push.ensures (c.put-note.ensures.number ∙ c.requires.number) c.put-note.ensures.within
          (λ history stored. c.put-note.ensures.told history stored ∙ ap With c.requires.number);
    }

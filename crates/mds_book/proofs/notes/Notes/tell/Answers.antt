use Rattle.mds_book.proofs.NotesTold.{tell_more}
use Rattle.mds_book.proofs.notes.Notes.tell.Goals as goal

pub returns : goal.returns
returns g c = tell_more g.N.NoteForm.number g.N.NoteForm.tells g.N.NoteForm.is_within g.met.N.NoteForm.stays c.args.self.now.list

use Rattle.std.proofs.Common.{ap}
use Rattle.mds_log.specs.Log.{requests}
use Rattle.mds_book.specs.Sights.{Sighted}
use Rattle.mds_book.proofs.Accounts.{retired_seat, told_both}
use Rattle.mds_book.proofs.seat.Seat.retire.Goals as goal

pub returns-clause-first : goal.returns-clause-first
returns-clause-first g c =
    let part = c.retire-first_count.ensures in
    retired_seat _ 0 _ c.self.inside.first.sight.seen _ _ c.self.inside.first.mark c.self.inside.first.count _ _ part.fresh part.here part.begins part.seen c.self.invariant.0 part.count
    (ap (λ (s : Sighted). requests s.seen) part.sight) (told_both g.L.Note.NoteForm.number g.L.Note.NoteForm.tells c.self.inside.notes.list _ _ _ _ c.retire-first_count.ensures.sight c.retire-second_count.ensures.sight)

pub returns-clause-second : goal.returns-clause-second
returns-clause-second g c =
    let part = c.retire-second_count.ensures in
    retired_seat _ 1 _ c.self.inside.second.sight.seen _ _ c.self.inside.second.mark c.self.inside.second.count _ _ part.fresh part.here part.begins part.seen c.self.invariant.1 part.count
    (ap (λ (s : Sighted). requests s.seen) part.sight) (told_both g.L.Note.NoteForm.number g.L.Note.NoteForm.tells c.self.inside.notes.list _ _ _ _ c.retire-first_count.ensures.sight c.retire-second_count.ensures.sight)

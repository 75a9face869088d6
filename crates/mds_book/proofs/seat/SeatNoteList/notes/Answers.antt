use Rattle.std.proofs.Common.{sym, ap, ◌∙◌}
use Rattle.std.proofs.lemmas.List.{map-id}
use Rattle.mds_book.specs.Seats.{Seated}
use Rattle.mds_book.proofs.seat.SeatNoteList.notes.Goals as goal

-- each note is kept as it is
pub returns : goal.returns
returns g c = c.as_slice.ensures ∙ (sym (map-id c.self.inside.notes.list) ∙ ap (λ (s : Seated). s.notes) c.self.view_is)

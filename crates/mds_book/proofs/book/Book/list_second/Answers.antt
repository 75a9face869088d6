use Rattle.std.proofs.Common.{refl, sym, ap, ◌∙◌}
use Rattle.mds_log.specs.Log.{requests}
use Rattle.mds_book.specs.Notes.{seen_by}
use Rattle.mds_book.proofs.Listed.{listed_second, true_looked, true_same}
use Rattle.mds_book.proofs.NotesTold.{kept_more, seen_second}
use Rattle.mds_book.proofs.Trues.{requests_prefix}
use Rattle.mds_book.proofs.book.Book.list_second.Goals as goal

-- the notes stay true to what the seat has seen of its shard now, and to the other
pub invariant_of-seat-2 : goal.invariant_of-seat-2
invariant_of-seat-2 g c =
    let kept = kept_more (seen_by (requests c.seat.inside.first.sight.seen) (requests c.seat.inside.second.sight.seen))
    (seen_by (requests c.seat.inside.first.sight.seen) (requests c.list_in.new.part.sight.seen)) c.seat.invariant.2 c.tell.ensures
    (seen_second (requests c.seat.inside.first.sight.seen) (requests c.seat.inside.second.sight.seen) (requests c.list_in.new.part.sight.seen) (requests_prefix c.seat.inside.second.sight.seen c.list_in.new.part.sight.seen c.in_ok-found.ensures.looked.seen)) in
    (true_same c.seat.invariant.0 kept.1, true_looked c.seat.invariant.1 c.in_ok-found.ensures.looked kept.1, kept.0)

pub returns-clause-listed : goal.returns-clause-listed
returns-clause-listed g c =
    let view = c.seat.view_is in
    let kept = kept_more (seen_by (requests c.seat.inside.first.sight.seen) (requests c.seat.inside.second.sight.seen))
    (seen_by (requests c.seat.inside.first.sight.seen) (requests c.list_in.new.part.sight.seen)) c.seat.invariant.2 c.tell.ensures
    (seen_second (requests c.seat.inside.first.sight.seen) (requests c.seat.inside.second.sight.seen) (requests c.list_in.new.part.sight.seen) (requests_prefix c.seat.inside.second.sight.seen c.list_in.new.part.sight.seen c.in_ok-found.ensures.looked.seen)) in
    listed_second (sym (ap (λ b. b.tables) c.self.view_is) ∙ c.self.invariant.1) c.requires c.in_ok-found.ensures.looked c.in_ok-found.ensures.events
    (ap (λ s. s.second) view) (ap (λ s. s.second_turns) view) (ap (λ s. s.second_seen) view) refl refl refl (ap (λ s. s.first) view)
    (kept.1 ∙ ap (λ s. s.notes) view) (ap (λ s. s.keeps_all) view) (ap (λ s. s.first_seen) view) (ap (λ s. s.first_turns) view)

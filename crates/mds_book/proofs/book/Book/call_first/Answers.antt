use Rattle.std.proofs.Common.{◌≤◌, ◌++◌, refl, sym, ap, subst, ◌∙◌}
use Rattle.mds_core.specs.History.{key_of}
use Rattle.mds_log.specs.Log.{requests}
use Rattle.mds_book.specs.Shards.{shard_of}
use Rattle.mds_book.specs.Seats.{notes_of_call}
use Rattle.mds_book.specs.Notes.{seen_by}
use Rattle.mds_book.proofs.Called.{called_first, not_one}
use Rattle.mds_book.proofs.Trues.{true_call, true_other}
use Rattle.mds_book.proofs.NotesTold.{kept_call, seen_first, seen_in_first, seen_longer, stored_step}
use Rattle.mds_book.proofs.book.Book.call_first.Goals as goal

-- the notes stay true to what the seat saw of either shard
pub invariant_of-seat-2 : goal.invariant_of-seat-2
invariant_of-seat-2 g c =
    let step = c.in_ok-reply.ensures.stepped in
    let kept = kept_call (seen_by (requests c.seat.inside.first.sight.seen) (requests c.seat.inside.second.sight.seen))
    (seen_by (requests c.call_in.new.part.sight.seen) (requests c.seat.inside.second.sight.seen)) c.seat.invariant.2 c.in_ok-reply.ensures.noted
    (seen_first (requests c.seat.inside.first.sight.seen) (requests c.call_in.new.part.sight.seen) (requests c.seat.inside.second.sight.seen) (seen_longer step))
    (seen_in_first (requests c.call_in.new.part.sight.seen) (requests c.seat.inside.second.sight.seen) c.args.request.now c.in_ok-reply.reply c.requires (stored_step step)) in
    (true_call _ c.seat.invariant.0 step c.requires kept.1, true_other c.seat.inside.keeps_all c.args.request.now c.in_ok-reply.reply c.seat.invariant.1 (not_one (shard_of (key_of c.args.request.now)) c.requires) kept.1, kept.0)

-- the shard's history before the call is that of the log that was shown
pub returns-clause-called : goal.returns-clause-called
returns-clause-called g c =
    let view = c.seat.view_is in
    let step = c.in_ok-reply.ensures.stepped in
    let kept = kept_call (seen_by (requests c.seat.inside.first.sight.seen) (requests c.seat.inside.second.sight.seen))
    (seen_by (requests c.call_in.new.part.sight.seen) (requests c.seat.inside.second.sight.seen)) c.seat.invariant.2 c.in_ok-reply.ensures.noted
    (seen_first (requests c.seat.inside.first.sight.seen) (requests c.call_in.new.part.sight.seen) (requests c.seat.inside.second.sight.seen) (seen_longer step))
    (seen_in_first (requests c.call_in.new.part.sight.seen) (requests c.seat.inside.second.sight.seen) c.args.request.now c.in_ok-reply.reply c.requires (stored_step step)) in
    called_first (sym (ap (λ b. b.tables) c.self.view_is) ∙ c.self.invariant.0) c.requires step
    (ap (λ s. s.first) view) (ap (λ s. s.first_turns) view) (ap (λ s. s.first_seen) view) refl refl refl (ap (λ s. s.second) view)
    (kept.1 ∙ ap (λ s. s.notes ++ notes_of_call s.keeps_all c.args.request.now c.in_ok-reply.reply) view) (ap (λ s. s.keeps_all) view) (ap (λ s. s.second_seen) view)
    (ap (λ s. s.second_turns) view)

-- what the seat had counted is what its part had
pub returns-clause-place : goal.returns-clause-place
returns-clause-place g c =
    subst (λ s. s.first ≤ c.in_ok-reply.reply.place) c.seat.view_is c.in_ok-reply.ensures.stepped.called.place

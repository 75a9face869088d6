use Rattle.std.proofs.Common.{◌≡◌, ◌∙◌, refl, ap, subst, sym}
use Rattle.mds_face.specs.Seats.{HasGrown}
use Rattle.mds_pool.proofs.Growth.{connection_grows}
use Rattle.mds_pool.proofs.SeatGrowth.{seat_stays, seat_twice, seat_called, seat_listed}
use Rattle.mds_pool.proofs.pool.answer_at_seat.Goals as goal

pub returns : goal.returns
returns g c =
    let both = connection_grows _ (λ old new. (new.desk.seat.ghost_name ≡ old.desk.seat.ghost_name) × HasGrown old.desk.seat.now new.desk.seat.now)
    (λ own. (refl, seat_stays own.desk.seat.now))
    (λ old middle new one two. (two.0 ∙ one.0, seat_twice old.desk.seat.now middle.desk.seat.now new.desk.seat.now one.1 two.1))
    (λ old request reply new calls. (calls.1, seat_called old.desk.book.now.tables old.desk.seat.now request reply new.desk.seat.now calls.2))
    (λ old key events new lists. (lists.1, seat_listed old.desk.book.now.tables old.desk.seat.now key events new.desk.seat.now lists.2))
    _ (λ old new answer keeps. (ap (λ one. one.seat.ghost_name) keeps, subst (λ one. HasGrown old.desk.seat.now one.seat.now) (sym keeps) (seat_stays old.desk.seat.now)))
    _ _ c.answer_at.result.served c.answer_at.ensures.served c.answer_at.ensures.stopped in
    record { same_seat = both.0; grown = both.1 }

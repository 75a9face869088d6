use Rattle.std.proofs.Common.{◌≡◌, ◌∙◌, ℕ, ap, arith, vec_len}
use Rattle.std.specs.Prelude.{replicate}
use Rattle.mds_pool.proofs.EndLemmas.{ended, workers_still}
use Rattle.mds_pool.proofs.recorded_book.RecordedBook.serve.Goals as goal

-- each worker answered as many connections as it was to, and the book of their seats is settled
pub returns-in-Ok-settle_recorded-clause-ended : goal.returns-in-Ok-settle_recorded-clause-ended
returns-in-Ok-settle_recorded-clause-ended g c =
    let book = c.self.inside.book in
    let seats = c.self.inside.seats in
    let back = c.in-Ok-serve_round.round.seats.items in
    let many : vec_len seats ≡ book.seats = omega (arith, seats.ok.0, c.self.invariant.0.0) in
    let whole = c.in-Ok-serve_round.ensures.answered c.if-round-2.false ∙ ap (λ (n : ℕ). replicate n c.args.each) many in
    rw (← c.self.view_is)
    (ended book.tables book.seats c.args.each back c.in-Ok-settle_recorded.settled c.in-Ok-serve_round.round.answered.items
    (workers_still book.seats seats.items back c.self.invariant.0 c.in-Ok-serve_round.ensures.grown) c.in-Ok-settle_recorded.ensures.settled whole)

-- the book wasn't settled, for a reason for which any may not be
pub returns-clause-stopped : goal.returns-clause-stopped
returns-clause-stopped g c = c.in-Err.ensures.stopped c.args.self.tables c.args.self.seats c.args.each

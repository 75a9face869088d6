use Rattle.std.proofs.Common.{◌≡◌, ◌∙◌, ℕ, List, length, false, ap, arith, subst, vec_len}
use Rattle.std.specs.Prelude.{replicate}
use Rattle.std.specs.List.{AllZip}
use Rattle.std.proofs.lemmas.List.{length-replicate}
use Rattle.mds_book.specs.Books.{Opened}
use Rattle.mds_book.specs.Gathering.{IsGathered}
use Rattle.mds_book.specs.Seats.{Seated, new_seat}
use Rattle.mds_face.specs.Seats.{HasGrown}
use Rattle.mds_pool.proofs.EndLemmas.{ended, new_workers, workers_still}
use Rattle.mds_pool.proofs.serving.serve_and_settle.Goals as goal

pub returns-else-round : goal.returns-else-round
returns-else-round g c =
    let back = c.in-Ok-serve_round.round.seats.items in
    let all = c.settle.result in
    let grown = subst (λ (old : List Seated). AllZip HasGrown old back) c.in-Ok.ensures.seats c.in-Ok-serve_round.ensures.grown in
    let gathered = subst (λ (book : Opened). IsGathered book back all) c.in-Ok.ensures.book c.settle.ensures.0 in
    let many : vec_len c.in-Ok.opened.1 ≡ c.args.opening.seats =
    omega (arith, c.in-Ok.opened.1.ok.0, ap length c.in-Ok.ensures.seats, length-replicate c.args.opening.seats (new_seat false)) in
    let whole = c.in-Ok-serve_round.ensures.answered c.if-round.false ∙ ap (λ (n : ℕ). replicate n c.args.each) many in
    ended c.args.opening.tables c.args.opening.seats c.args.each back all c.in-Ok-serve_round.round.answered.items
    (workers_still c.args.opening.seats _ back (new_workers c.args.opening.seats) grown) (gathered, c.settle.ensures.1, c.settle.ensures.2) whole

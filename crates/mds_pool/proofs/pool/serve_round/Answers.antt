use Rattle.std.proofs.Common.{◌≡◌, ◌∙◌, ℕ, List, length, ap, sym, subst, arith, vec_len}
use Rattle.std.specs.Prelude.{replicate}
use Rattle.std.specs.List.{AllZip}
use Rattle.mds_book.specs.Seats.{Seated}
use Rattle.mds_face.specs.Seats.{HasGrown}
use Rattle.mds_pool.specs.Workers.{AtWork, HasWorked}
use Rattle.mds_pool.proofs.Rounds.{seats_grown, all_answered}
use Rattle.mds_pool.proofs.pool.serve_round.Goals as goal

pub returns-clause-grown : goal.returns-clause-grown
returns-clause-grown g c =
    let worked = subst (λ (before : List AtWork). AllZip (HasWorked c.args.each) before c.work_through-workers.result.items) c.workers_at.ensures c.work_through-workers.ensures.items in
    subst (λ (back : List Seated). AllZip HasGrown c.args.seats.items back) (sym c.of.ensures.seats)
    (seats_grown c.args.each c.args.seats.items _ worked)

pub returns-clause-answered : goal.returns-clause-answered
returns-clause-answered g c = λ none.
    let worked = subst (λ (before : List AtWork). AllZip (HasWorked c.args.each) before c.work_through-workers.result.items) c.workers_at.ensures c.work_through-workers.ensures.items in
    let count : length c.args.seats.items ≡ vec_len c.args.seats = omega (arith, c.args.seats.ok.0) in
    c.of.ensures.answered
    ∙ all_answered c.args.each c.args.seats.items _ worked (sym c.of.ensures.failed ∙ none)
    ∙ ap (λ (n : ℕ). replicate n c.args.each) count

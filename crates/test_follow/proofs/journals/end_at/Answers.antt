use Rattle.std.proofs.Common.{rules, ◌≡◌, false, List, [], slice_index_or, slice_set, sym, ◌∙◌, ap, subst}
use Rattle.mds_book.specs.Seats.{Seated, new_seat}
use Rattle.mds_follow.specs.Restart.{IsRefilled}
use Rattle.test_follow.proofs.journals.end_at.Goals as goal
use Rattle.test_follow.proofs.journals.end_at.Goals.{in-Some+in_ok-call, in_default}

-- a seat that was told nothing has asked all of nothing
fresh : IsRefilled (new_seat false) []
fresh = search rules

pub resume-requires-clause-fresh : goal.resume-requires-clause-fresh
resume-requires-clause-fresh g c κs within =
    let is : c.index_mut-2.result.now ≡ new_seat false =
    elim c.match-first.branch [
      | in-Some+in_ok-call w ↦
          c.index_mut-2.ensures.value
          ∙ ap (λ (seats : List Seated). slice_index_or seats 0 c.index_mut-2.result.now)
          (ap (λ seats. seats.items) w.seats-is ∙ ap (λ (seats : List Seated). slice_set seats 1 w.call.new.seat) c.requires.seats)
      | in_default w ↦
          c.index_mut-2.ensures.value ∙ ap (λ (seats : List Seated). slice_index_or seats 0 c.index_mut-2.result.now) (ap (λ seats. seats.items) w.seats-is ∙ c.requires.seats)
    ] in
    subst (λ (seat : Seated). IsRefilled seat []) (sym is) fresh

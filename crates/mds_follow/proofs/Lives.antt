-- What one life of a server leaves to the next.
use Rattle.std.proofs.Common.{ℕ, List, subst}
use mathlib.Core.List.{IsPrefix}
use Rattle.mds_core.specs.declared.request.Request.{Request}
use Rattle.mds_core.specs.History.{requests_of}
use Rattle.mds_log.specs.Log.{Acceptance, requests}
use Rattle.mds_log.proofs.Lists.{prefix_trans}
use Rattle.mds_book.specs.Shards.{shard_of, part}
use Rattle.mds_book.proofs.CopiedOf.{of_vehicle_prefix}
use Rattle.mds_follow.specs.Lives.{AnswersStandInTheNextLife, LooksStandInTheNextLife, IsNextLife}
use Rattle.mds_follow.proofs.Covering.{part_begins}
use Rattle.mds_follow.proofs.Vehicles.{of_part}

-- what is recorded in one life begins what is in the next
told_again : {F : Type 0} (left_since : F → ℕ → List Request → Type 0) (file : F) (now : ℕ) (recorded told : List Acceptance) (last : Acceptance)
    → IsNextLife (left_since file) now recorded told last → IsPrefix (requests recorded) (requests told)
told_again left_since file now recorded told last next =
    let Begins : List Request → Type 0 = λ w. IsPrefix w (requests told) in
    let Read : List Acceptance → Type 0 = λ w. IsPrefix (requests w) next.read in
    let read : IsPrefix (requests recorded) next.read = subst Read next.all ((next.safe next.place last next.stands_last).1 next.read next.left) in
    let opened : IsPrefix next.read (requests told) = subst Begins next.opened.is_held next.opened.begins in
    prefix_trans (requests recorded) next.read (requests told) read opened

pub answers_stand : {F : Type 0} (left_since : F → ℕ → List Request → Type 0) → AnswersStandInTheNextLife left_since
answers_stand left_since file now recorded told last number seen history next rests follows =
    let both = told_again left_since file now recorded told last next in
    prefix_trans seen (part number (requests recorded)) history rests
    (prefix_trans (part number (requests recorded)) (part number (requests told)) history (part_begins number (requests recorded) (requests told) both) follows)

pub looks_stand : {F : Type 0} (left_since : F → ℕ → List Request → Type 0) → LooksStandInTheNextLife left_since
looks_stand left_since file now recorded told last key seen history next rests follows =
    let both = told_again left_since file now recorded told last next in
    let of_told : IsPrefix (requests_of (requests told) key) (requests_of history key) =
    subst (λ (w : List Request). IsPrefix w (requests_of history key)) (of_part (requests told) key) (of_vehicle_prefix (part (shard_of key) (requests told)) history key follows) in
    prefix_trans (requests_of seen key) (requests_of (requests recorded) key) (requests_of history key) rests
    (prefix_trans (requests_of (requests recorded) key) (requests_of (requests told) key) (requests_of history key) (of_vehicle_prefix (requests recorded) (requests told) key both) of_told)

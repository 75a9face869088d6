-- What workers leave.
use Rattle.std.proofs.Common.{◌≡◌, ◌∙◌, ◌<◌, ℕ, zero, suc, List, length, false, refl, ap, subst, slice_index_or, slice_set, sym, arith}
use Rattle.std.specs.Prelude.{Ok, replicate}
use Rattle.std.specs.List.{AllZip}
use Rattle.std.proofs.lemmas.List.{length-replicate, length-set, get_or-replicate}
use Rattle.std.proofs.lemmas.List.Elements.{All-replicate, All-set, AllZip-get_or}
use Rattle.std.proofs.lemmas.Slice.Zip.{AllZip-long}
use Rattle.mds_table.specs.Tables.{Tables}
use Rattle.mds_book.specs.Seats.{Seated, new_seat}
use Rattle.mds_book.specs.Gathering.{Collected, IsGathered}
use Rattle.mds_face.specs.Seats.{HasGrown}
use Rattle.mds_book.specs.Refilling.{HasAll}
use Rattle.mds_pool.specs.Recording.{AreResumed}
use Rattle.mds_pool.specs.Serving.{AreWorkers, IsEnded, IsLeft, IsSettledEnd}

-- workers whose seats have grown are as many, and note the same
pub workers_still : (count : ℕ) (seats back : List Seated) → AreWorkers count seats → AllZip HasGrown seats back → AreWorkers count back
workers_still count seats back are grown =
    let long : length back ≡ length seats = AllZip-long HasGrown seats back grown in (
      long ∙ are.0,
      λ place other within.
          let inside : place < length seats = subst (λ n. place < n) long within in
          let seat : HasGrown (slice_index_or seats place other) (slice_index_or back place other) = AllZip-get_or HasGrown seats back place other other grown inside in
          seat.keeps_all ∙ are.1 place other inside,
    )

-- seats that were told nothing, and note the calls that were accepted, are workers
pub new_workers : (count : ℕ) → AreWorkers count (replicate count (new_seat false))
new_workers count = (length-replicate count (new_seat false), All-replicate (λ seat. seat.keeps_all ≡ false) count (new_seat false) refl)

-- such seats are workers too where the first of them has asked something, and notes the same
pub first_resumed : (count : ℕ) (seats : List Seated) (old new : Seated) → 0 < count → seats ≡ replicate count (new_seat false)
    → old ≡ slice_index_or seats 0 old → new.keeps_all ≡ old.keeps_all → AreWorkers count (slice_set seats 0 new)
first_resumed count seats old new some are is keep =
    let workers : AreWorkers count seats = subst (AreWorkers count) (sym are) (new_workers count) in
    let first : old ≡ new_seat false = is ∙ (ap (λ (w : List Seated). slice_index_or w 0 old) are ∙ get_or-replicate count 0 (new_seat false) old some) in
    (length-set seats 0 new ∙ workers.0, All-set (λ seat. seat.keeps_all ≡ false) seats 0 new (keep ∙ ap (λ (s : Seated). s.keeps_all) first) workers.1)

-- and they are resumed where it has asked all that the book holds
pub resumed : (count : ℕ) (seats : List Seated) (new : Seated) → 0 < count → seats ≡ replicate count (new_seat false) → HasAll new
    → AreResumed (slice_set seats 0 new)
resumed zero seats new some are all = absurd (omega (arith, some))
resumed (suc others) seats new some are all =
    record { first = new; others = others; split = ap (λ (w : List Seated). slice_set w 0 new) are; all = all }

-- what was gathered of a book of the workers' seats is what was left of it
left : (tables : Tables) (count : ℕ) (seats : List Seated) (all : Collected) → AreWorkers count seats
    → IsGathered (record { tables = tables; seats = count }) seats all → IsLeft tables count all
left tables count seats all are gathered = record {
  tables = gathered.tables;
  workers = subst (AreWorkers count) (sym gathered.seats) are;
  whole = gathered.whole;
}

-- serving ended so, where the workers answered so many connections each, and the book of their seats was settled
pub ended : (tables : Tables) (count each : ℕ) (seats : List Seated) (all : Collected) (answered : List ℕ) → AreWorkers count seats
    → IsSettledEnd (record { tables = tables; seats = count }) seats all → answered ≡ replicate count each
    → IsEnded tables count each (Ok (record { all = all; answered = answered }))
ended tables count each seats all answered are settled whole = (left tables count seats all are settled.0, settled.1, settled.2, whole)

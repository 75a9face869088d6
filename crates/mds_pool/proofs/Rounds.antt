-- What a round of workers leaves.
use Rattle.std.proofs.Common.{◌≡◌, ◌||◌, ℕ, List, [], ◌∷◌, length, map, Bool, true, false, refl, ap, ◌∙◌, rules, subst, sym}
use Rattle.std.specs.Prelude.{replicate}
use Rattle.std.specs.List.{AllZip, list_any}
use Rattle.mds_book.specs.Seats.{Seated}
use Rattle.mds_face.specs.Seats.{HasGrown}
use Rattle.mds_pool.specs.Workers.{AtWork, HasWorked, idle_worker}
use Rattle.mds_pool.proofs.SeatGrowth.{seat_stays}

-- neither holds where not one of both does
neither : (a b : Bool) → (a || b) ≡ false → (a ≡ false) × (b ≡ false)
neither false b none = (refl, none)
neither true b none = (none, absurd (search (rules, none)))

-- the seats of workers that have worked have grown
pub seats_grown : (each : ℕ) (seats : List Seated) (workers : List AtWork) → AllZip (HasWorked each) (map idle_worker seats) workers
    → AllZip HasGrown seats (map (λ (one : AtWork). one.seat) workers)
seats_grown each [] [] worked = tt
seats_grown each [] (worker ∷ workers) worked = absurd worked
seats_grown each (seat ∷ seats) [] worked = absurd worked
seats_grown each (seat ∷ seats) (worker ∷ workers) worked = (worked.0.grown, seats_grown each seats workers worked.1)

-- where the port failed no worker, each answered so many connections
pub all_answered : (each : ℕ) (seats : List Seated) (workers : List AtWork) → AllZip (HasWorked each) (map idle_worker seats) workers
    → list_any (λ (one : AtWork). one.failed) workers ≡ false → map (λ (one : AtWork). one.answered) workers ≡ replicate (length seats) each
all_answered each [] [] worked none = refl
all_answered each [] (worker ∷ workers) worked none = absurd worked
all_answered each (seat ∷ seats) [] worked none = absurd worked
all_answered each (seat ∷ seats) (worker ∷ workers) worked none =
    let both = neither worker.failed (list_any (λ (one : AtWork). one.failed) workers) none in
    ap (λ (n : ℕ). n ∷ map (λ (one : AtWork). one.answered) workers) (worked.0.whole both.0)
    ∙ ap (λ (ns : List ℕ). each ∷ ns) (all_answered each seats workers worked.1 both.1)

-- seats that are as they were have grown by nothing
pub seats_stay : (seats back : List Seated) → back ≡ seats → AllZip HasGrown seats back
seats_stay seats back same = subst (λ (others : List Seated). AllZip HasGrown seats others) (sym same) (each_stays seats) where
  each_stays : (xs : List Seated) → AllZip HasGrown xs xs
  each_stays [] = tt
  each_stays (x ∷ xs) = (seat_stays x, each_stays xs)

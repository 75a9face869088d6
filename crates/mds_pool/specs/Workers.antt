-- What workers of a port come to.
use Rattle.std.specs.Prelude.{◌≡◌, ℕ, Bool, false}
use Rattle.mds_book.specs.Seats.{Seated}
use Rattle.mds_face.specs.Seats.{HasGrown}

-- a worker: its seat, how many connections it answered there, and whether the port failed it before
-- it had answered all
pub record AtWork : Type 0 where
  pub seat : Seated
  pub answered : ℕ
  pub failed : Bool

-- a worker that has answered no connection
abbrev pub idle_worker : Seated → AtWork
idle_worker seat = record { seat = seat; answered = 0; failed = false }

-- the worker's seat has grown, and it answered so many connections, unless the port failed it
pub record HasWorked (each : ℕ) (old new : AtWork) : Type 0 where
  pub grown : HasGrown old.seat new.seat
  pub whole : new.failed ≡ false → new.answered ≡ each

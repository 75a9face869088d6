-- What handing back a book and its seats answers.
use Rattle.std.specs.Prelude.{◌≡◌, ◌≢◌, List, length, Result, Ok, Err}
use Rattle.mds_book.specs.declared.settling.SettleFault.{SettleFault}
use Rattle.mds_book.specs.declared.settling.SettleFault.TheVariants.{Missing, Torn}
use Rattle.mds_book.specs.Seats.{Seated}
use Rattle.mds_book.specs.Books.{Opened}
use Rattle.mds_book.specs.Gathering.{Collected, IsGathered}
use Rattle.mds_book.specs.Settling.{AreBeginnings, IsSettledBook}

-- settled, where all seats of the book are handed in, and what each saw of a shard is a beginning
-- of what the shard holds; the book and the seats back, where the seats aren't all. That notes
-- don't fit never comes
abbrev pub IsReconciled : {X Y V W P Q : Type 0} → Opened
    → List Seated → Result Collected (SettleFault X Y V W P Q) → Type 0
IsReconciled book seats (Ok all) =
    (length seats ≡ book.seats) × IsGathered book seats all × IsSettledBook all × AreBeginnings all
IsReconciled book seats (Err (Missing left handed)) =
    (length seats ≢ book.seats) × (left ≡ book) × (handed.items ≡ seats)
IsReconciled book seats (Err (Torn shard place all)) = ⊥

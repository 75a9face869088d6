use Rattle.std.proofs.Common.{length}
use Rattle.mds_book.proofs.settling.+count_seats.Given as goal

abbrev pub decreases-count_seats : goal.decreases-count_seats
decreases-count_seats g l = length l.seats.now

use Rattle.std.proofs.Common.{◌+◌, ◌*◌}
use Rattle.mds_pieces.proofs.part.+halves.Given as goal

abbrev pub decreases-read_part : goal.decreases-read_part
decreases-read_part g l = 2 * l.readers

abbrev pub decreases-front : goal.decreases-front
decreases-front g l = 2 * l.low + 1

abbrev pub decreases-back : goal.decreases-back
decreases-back g l = 2 * l.high + 1

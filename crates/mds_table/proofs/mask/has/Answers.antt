use Rattle.std.proofs.Common.{◌==◌, ap}
use Rattle.std.proofs.lemmas.Nat.Bits.{shr_and_one}
use Rattle.mds_table.specs.State.{code_of}
use Rattle.mds_table.specs.Mask.{has_bit}
use Rattle.mds_table.proofs.mask.has.Goals as goal

pub returns : goal.returns
unfolding has_bit
returns c = rw c.code.ensures.code (ap (λ bit. bit == 1) (shr_and_one c.args.mask (code_of c.args.state)))

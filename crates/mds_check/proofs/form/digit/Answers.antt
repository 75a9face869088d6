use Rattle.std.proofs.Common.{arith}
use Rattle.mds_check.proofs.FormLemmas.{digit_low, digit_high}
use Rattle.mds_check.proofs.form.digit.Goals as goal

pub returns-then-digit-lt10 : goal.returns-then-digit-lt10
returns-then-digit-lt10 c = omega (arith, digit_low)

pub returns-else-digit-lt10 : goal.returns-else-digit-lt10
returns-else-digit-lt10 c = omega (arith, digit_high)

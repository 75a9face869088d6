use Rattle.std.proofs.Common.{arith}
use Rattle.mds_check.proofs.FormLemmas.{digit_low, digit_high}
use Rattle.mds_check.proofs.form.value_of.Goals as goal

pub returns-in-48-to-57-clause-some : goal.returns-in-48-to-57-clause-some
returns-in-48-to-57-clause-some c = grind (arith, digit_low, digit_high)

pub returns-in-97-to-102-clause-some : goal.returns-in-97-to-102-clause-some
returns-in-97-to-102-clause-some c = grind (arith, digit_low, digit_high)

pub returns-in_default-clause-none : goal.returns-in_default-clause-none
returns-in_default-clause-none c = λ value small. grind (arith, digit_low, digit_high)

pub returns-in_default-2-clause-none : goal.returns-in_default-2-clause-none
returns-in_default-2-clause-none c = λ value small. grind (arith, digit_low, digit_high)

pub returns-in_default-3-clause-none : goal.returns-in_default-3-clause-none
returns-in_default-3-clause-none c = λ value small. grind (arith, digit_low, digit_high)

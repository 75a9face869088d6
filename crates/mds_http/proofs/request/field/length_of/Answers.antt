use Rattle.std.proofs.Common.{arith}
use Rattle.mds_http.proofs.FieldLemmas.{digit_passes}
use Rattle.mds_http.proofs.request.field.length_of.Goals as goal

pub returns-then-len-gt-MAX_BYTES : goal.returns-then-len-gt-MAX_BYTES
returns-then-len-gt-MAX_BYTES c =
    let good = c.loop-digit.invariant in
    omega (arith, good.value, c.from.ensures, digit_passes c.loop-digit.len c.loop-digit.digit-index c.args.digits.now c.loop-digit-test.true good.digits)

use Rattle.std.proofs.Common.{◌-◌, ◌*◌, ◌/◌, ◌%◌, ◌^◌, ◌<◌, sym, ◌∙◌, arith}
use Rattle.mds_check.proofs.FormLemmas.{digits_small, digits_more, digits_next, digits_whole, digit_there, same_digit, where_none}
use Rattle.mds_check.proofs.form.read_digits.Goals as goal

pub overflow_mul-check : goal.overflow_mul-check
overflow_mul-check c = omega (arith, digits_small c.loop-digit.check c.loop-digit.digit-index (omega arith) c.loop-digit.invariant.small)

pub returns-in_err-check-clause-none : goal.returns-in_err-check-clause-none
returns-in_err-check-clause-none c =
    where_none c.from_residual.result _ (λ n small are.
    let at = c.loop-digit.digit-index in
    c.in_err-check.ensures.none (n / 2 ^ (28 - 4 * at) % 16) (omega arith) (digit_there n at c.args.digits.now (omega arith) are))

pub loop-digit-preserved : goal.loop-digit-preserved
loop-digit-preserved c =
    let at = c.loop-digit.digit-index in
    let check = c.loop-digit.check in
    let value = c.in_ok-check.field-0 in
    let digit = c.in_ok-check.ensures.some in record {
      small = digits_more check value at c.loop-digit.invariant.small digit.0;
      front = λ n small are.
          let within : at < 8 = omega arith in
          let same = same_digit value (n / 2 ^ (28 - 4 * at) % 16) digit.0 (omega arith) (sym digit.1 ∙ digit_there n at c.args.digits.now within are) in
          digits_next n check value at within (c.loop-digit.invariant.front n small are) same;
    }

pub returns-clause-some : goal.returns-clause-some
returns-clause-some c = λ n small are. digits_whole n c.loop-digit.check c.loop-digit.digit-index (omega arith) (c.loop-digit.invariant.front n small are)

use Rattle.std.proofs.Common.{◌≡◌, ℕ, ◌-◌, ◌*◌, ◌/◌, ◌^◌, ◌<◌}
use Rattle.mds_check.specs.Form.{check_digits}
use Rattle.mds_check.proofs.form.read_digits.Given as goal

abbrev pub invariant-loop-digit : goal.invariant-loop-digit
invariant-loop-digit l = record {
  small : l.check < 2 ^ (4 * l.digit-index);
  front : (n : ℕ) → n < 2 ^ 32 → l.digits ≡ check_digits n → l.check ≡ n / 2 ^ (32 - 4 * l.digit-index);
}

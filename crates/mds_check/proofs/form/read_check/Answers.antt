use Rattle.std.proofs.Common.{ℕ, List, length, take, drop, sym, ap, ◌∙◌}
use Rattle.mds_check.specs.Form.{check_text}
use Rattle.mds_check.proofs.FormLemmas.{check_text-length, check_text-digits, where_none}
use Rattle.mds_check.proofs.form.read_check.Goals as goal

pub returns-then-text-ne-CHECK_BYTES-clause-none : goal.returns-then-text-ne-CHECK_BYTES-clause-none
returns-then-text-ne-CHECK_BYTES-clause-none c = λ check small is.
    c.if-text-ne-CHECK_BYTES.true (ap length is ∙ check_text-length check)

pub returns-in_err-check-clause-none : goal.returns-in_err-check-clause-none
returns-in_err-check-clause-none c =
    where_none c.from_residual.result _ (λ check small is.
    c.in_err-check.ensures.none check small (ap (λ (text : List ℕ). take 8 (drop 10 text)) is ∙ check_text-digits check))

pub returns-else-is_check-clause-none : goal.returns-else-is_check-clause-none
returns-else-is_check-clause-none c = λ check small is.
    let same = c.in_ok-check.ensures.some check small (ap (λ (text : List ℕ). take 8 (drop 10 text)) is ∙ check_text-digits check) in
    let yes = c.is_check.ensures.1 (is ∙ ap check_text (sym same)) in
    absurd (cc (yes, c.if-is_check.false))

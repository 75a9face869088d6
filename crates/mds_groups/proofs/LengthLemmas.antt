-- No line of a request is as short as a check.
use Rattle.std.proofs.Common.{◌≡◌, ℕ, ◌≤◌, length, List, ap, arith, length-append}
use Rattle.uuid.specs.Text.{hyphenated_text, lower}
use Rattle.uuid.proofs.TextLemmas.{by_index_length}
use Rattle.mds_core.specs.declared.key.Key.{Key}
use Rattle.mds_core.specs.declared.request.Request.TheVariants.{Register, Report, Look}
use Rattle.mds_core.specs.Reported.{Reported}
use Rattle.mds_batch.specs.Texts.{registration_text, event_text}
use Rattle.mds_groups.specs.Laws.{TextsAreNoChecks}

long_identifier : (bytes : List ℕ) → length (hyphenated_text lower bytes) ≡ 36
long_identifier bytes = by_index_length 36 _

long_registration : (key : Key) → 36 ≤ length (registration_text key)
long_registration key = simp length-append (omega (arith, long_identifier key.device, long_identifier key.provider))

long_event : (event : Reported) → 36 ≤ length (event_text event)
long_event event = simp length-append (omega (arith, long_identifier event.key.device))

pub texts_are_no_checks : TextsAreNoChecks
texts_are_no_checks (Register key) text is short =
    let same : registration_text key ≡ text = cc is in
    omega (arith, ap (λ (w : List ℕ). length w) same, long_registration key, short)
texts_are_no_checks (Report reported) text is short =
    let same : event_text reported ≡ text = cc is in
    omega (arith, ap (λ (w : List ℕ). length w) same, long_event reported, short)
texts_are_no_checks (Look key) text is short = absurd (cc is)

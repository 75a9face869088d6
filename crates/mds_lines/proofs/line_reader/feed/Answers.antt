use Rattle.std.proofs.Common.{◌≡◌, ◌<◌, ◌≤◌, ◌++◌, true, not, cond, length, take, ap, subst, ◌∙◌, length-append, arith}
use Rattle.std.proofs.lemmas.List.{take_all}
use Rattle.std.specs.Result.{is_ok}
use Rattle.mds_table.specs.Json.{max_bytes}
use Rattle.mds_lines.specs.declared.line_fault.LineFault.TheVariants.{TooLong}
use Rattle.mds_lines.specs.Stream.{IsFaultyWith}
use Rattle.mds_lines.specs.LineReading.{AreRead}
use Rattle.mds_lines.proofs.ErrorLemmas.{passed_on, no_success}
use Rattle.mds_lines.proofs.FeedLemmas.{front_read, faulty_front, faulty_piece, faulty_too_long}
use Rattle.mds_lines.proofs.line_reader.feed.Goals as goal

pub returns-then-is_err-clause-taken : goal.returns-then-is_err-clause-taken
returns-then-is_err-clause-taken g c = λ items read. (items, λ before took. took, tt)

pub returns-in_err-read-clause-taken : goal.returns-in_err-read-clause-taken
returns-in_err-read-clause-taken g c = λ items read.
    let all = c.extend_from_slice.new.self.items in
    let old = c.args.bytes.now.items in
    let piece = c.args.piece.now in
    let kept = c.min-kept.result in
    let to = c.min-to.result in
    let now = c.deref.result.now in
    let lines = c.args.lines.now in
    let same : now ≡ all = cc in
    let done : is_ok c.extend_from_slice.result ≡ true = c.is_err.ensures.negation ∙ ap not c.if-is_err.false in
    let grown : all ≡ old ++ take kept piece = c.extend_from_slice.ensures.items ∙ ap (λ is. cond is (old ++ take kept piece) old) done in
    let from : c.len-from.result ≡ length old = omega (arith, c.len-from.ensures) in
    let within : length old ≤ to = omega (arith, ap length grown, length-append old (take kept piece), c.requires.short, c.min-to.ensures, c.len.ensures) in
    let front = front_read c.len-from.result to kept old piece all now from within grown same in
    let next = c.in_err-read.ensures.taken items (subst (λ bytes. AreRead bytes lines.ended lines.count lines.taken items) front read) in
    (next.0, next.1, no_success _ _ _ c.from_residual.ensures.1)

pub returns-in_err-read-clause-kept : goal.returns-in_err-read-clause-kept
returns-in_err-read-clause-kept g c =
    let all = c.extend_from_slice.new.self.items in
    let fault = c.in_err-read.field-0.0 in
    let same : c.deref.result.now ≡ all = cc in
    let faulty = faulty_front c.min-to.result c.deref.result.now fault c.in_err-read.ensures.fault in
    passed_on _ _ (IsFaultyWith all) c.from_residual.ensures.1 (subst (λ bytes. IsFaultyWith bytes fault) same faulty)

pub returns-in_err-read-clause-fault : goal.returns-in_err-read-clause-fault
returns-in_err-read-clause-fault g c =
    let all = c.extend_from_slice.new.self.items in
    let old = c.args.bytes.now.items in
    let piece = c.args.piece.now in
    let kept = c.min-kept.result in
    let fault = c.in_err-read.field-0.0 in
    let same : c.deref.result.now ≡ all = cc in
    let done : is_ok c.extend_from_slice.result ≡ true = c.is_err.ensures.negation ∙ ap not c.if-is_err.false in
    let grown : all ≡ old ++ take kept piece = c.extend_from_slice.ensures.items ∙ ap (λ is. cond is (old ++ take kept piece) old) done in
    let faulty = faulty_front c.min-to.result c.deref.result.now fault c.in_err-read.ensures.fault in
    passed_on _ _ (IsFaultyWith (old ++ piece)) c.from_residual.ensures.1 (faulty_piece kept old piece fault (subst (λ bytes. IsFaultyWith bytes fault) (same ∙ grown) faulty))

pub returns-then-len-gt-MAX_BYTES-clause-taken : goal.returns-then-len-gt-MAX_BYTES-clause-taken
returns-then-len-gt-MAX_BYTES-clause-taken g c = λ items read.
    let all = c.extend_from_slice.new.self.items in
    let old = c.args.bytes.now.items in
    let piece = c.args.piece.now in
    let kept = c.min-kept.result in
    let to = c.min-to.result in
    let now = c.deref.result.now in
    let lines = c.args.lines.now in
    let same : now ≡ all = cc in
    let done : is_ok c.extend_from_slice.result ≡ true = c.is_err.ensures.negation ∙ ap not c.if-is_err.false in
    let grown : all ≡ old ++ take kept piece = c.extend_from_slice.ensures.items ∙ ap (λ is. cond is (old ++ take kept piece) old) done in
    let from : c.len-from.result ≡ length old = omega (arith, c.len-from.ensures) in
    let within : length old ≤ to = omega (arith, ap length grown, length-append old (take kept piece), c.requires.short, c.min-to.ensures, c.len.ensures) in
    let front = front_read c.len-from.result to kept old piece all now from within grown same in
    let next = c.in_ok-read.ensures.taken items (subst (λ bytes. AreRead bytes lines.ended lines.count lines.taken items) front read) in
    (next.0, next.1, tt)

pub returns-then-len-gt-MAX_BYTES-clause-kept : goal.returns-then-len-gt-MAX_BYTES-clause-kept
returns-then-len-gt-MAX_BYTES-clause-kept g c =
    let all = c.extend_from_slice.new.self.items in
    let old = c.args.bytes.now.items in
    let piece = c.args.piece.now in
    let kept = c.min-kept.result in
    let to = c.min-to.result in
    let now = c.deref.result.now in
    let lines = c.args.lines.now in
    let same : now ≡ all = cc in
    let done : is_ok c.extend_from_slice.result ≡ true = c.is_err.ensures.negation ∙ ap not c.if-is_err.false in
    let grown : all ≡ old ++ take kept piece = c.extend_from_slice.ensures.items ∙ ap (λ is. cond is (old ++ take kept piece) old) done in
    let from : c.len-from.result ≡ length old = omega (arith, c.len-from.ensures) in
    let within : length old ≤ to = omega (arith, ap length grown, length-append old (take kept piece), c.requires.short, c.min-to.ensures, c.len.ensures) in
    let front = front_read c.len-from.result to kept old piece all now from within grown same in
    let new = c.read.new.self in
    let items = c.requires.read.0 in
    let next = c.in_ok-read.ensures.taken items (subst (λ bytes. AreRead bytes lines.ended lines.count lines.taken items) front c.requires.read.1) in
    let is : to ≡ max_bytes = omega (arith, c.min-to.ensures, c.len.ensures, c.len-2.ensures) in
    let long : to < length all = omega (arith, is, c.len-2.ensures) in
    let faulty = faulty_too_long to all new.ended new.count new.taken next.0 is long (subst (λ bytes. AreRead (take to bytes) new.ended new.count new.taken next.0) same next.2) in
    faulty

pub returns-then-len-gt-MAX_BYTES-clause-fault : goal.returns-then-len-gt-MAX_BYTES-clause-fault
returns-then-len-gt-MAX_BYTES-clause-fault g c =
    let all = c.extend_from_slice.new.self.items in
    let old = c.args.bytes.now.items in
    let piece = c.args.piece.now in
    let kept = c.min-kept.result in
    let to = c.min-to.result in
    let now = c.deref.result.now in
    let lines = c.args.lines.now in
    let same : now ≡ all = cc in
    let done : is_ok c.extend_from_slice.result ≡ true = c.is_err.ensures.negation ∙ ap not c.if-is_err.false in
    let grown : all ≡ old ++ take kept piece = c.extend_from_slice.ensures.items ∙ ap (λ is. cond is (old ++ take kept piece) old) done in
    let from : c.len-from.result ≡ length old = omega (arith, c.len-from.ensures) in
    let within : length old ≤ to = omega (arith, ap length grown, length-append old (take kept piece), c.requires.short, c.min-to.ensures, c.len.ensures) in
    let front = front_read c.len-from.result to kept old piece all now from within grown same in
    let new = c.read.new.self in
    let items = c.requires.read.0 in
    let next = c.in_ok-read.ensures.taken items (subst (λ bytes. AreRead bytes lines.ended lines.count lines.taken items) front c.requires.read.1) in
    let is : to ≡ max_bytes = omega (arith, c.min-to.ensures, c.len.ensures, c.len-2.ensures) in
    let long : to < length all = omega (arith, is, c.len-2.ensures) in
    let faulty = faulty_too_long to all new.ended new.count new.taken next.0 is long (subst (λ bytes. AreRead (take to bytes) new.ended new.count new.taken next.0) same next.2) in
    faulty_piece kept old piece TooLong (subst (λ bytes. IsFaultyWith bytes TooLong) grown faulty)

pub returns-clause-taken : goal.returns-clause-taken
returns-clause-taken g c = λ items read.
    let all = c.extend_from_slice.new.self.items in
    let old = c.args.bytes.now.items in
    let piece = c.args.piece.now in
    let kept = c.min-kept.result in
    let to = c.min-to.result in
    let now = c.deref.result.now in
    let lines = c.args.lines.now in
    let same : now ≡ all = cc in
    let done : is_ok c.extend_from_slice.result ≡ true = c.is_err.ensures.negation ∙ ap not c.if-is_err.false in
    let grown : all ≡ old ++ take kept piece = c.extend_from_slice.ensures.items ∙ ap (λ is. cond is (old ++ take kept piece) old) done in
    let from : c.len-from.result ≡ length old = omega (arith, c.len-from.ensures) in
    let within : length old ≤ to = omega (arith, ap length grown, length-append old (take kept piece), c.requires.short, c.min-to.ensures, c.len.ensures) in
    let front = front_read c.len-from.result to kept old piece all now from within grown same in
    let new = c.read.new.self in
    let next = c.in_ok-read.ensures.taken items (subst (λ bytes. AreRead bytes lines.ended lines.count lines.taken items) front read) in
    let most : length all ≤ to = omega (arith, c.min-to.ensures, c.len.ensures, c.len-2.ensures) in
    let whole : take to now ≡ all = ap (take to) same ∙ take_all to all most in
    (next.0, next.1, subst (λ bytes. AreRead bytes new.ended new.count new.taken next.0) whole next.2)

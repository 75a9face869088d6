use Rattle.std.proofs.Common.{◌≡◌, ◌≤◌, ◌∙◌, true, false, length, arith, rules, subst}
use Rattle.mds_check.specs.Form.{IsCheckOf, IsText}
use Rattle.mds_journal.specs.Stream.{IsStreamFault, lines_given, unread_of}
use Rattle.mds_commands.proofs.ErrorLemmas.{passed_on}
use Rattle.mds_commands.specs.Gate.{HasNoGroup, IsLong}
use Rattle.mds_commands.specs.Taking.{IsShort}
use Rattle.mds_commands.proofs.GateLemmas.{group_found, long_in_group, none_found, other_found, text_more}
use Rattle.mds_commands.proofs.vehicles.gate.take_group.Goals as goal

pub returns-in_err-next_line-clause-long : goal.returns-in_err-next_line-clause-long
returns-in_err-next_line-clause-long g c =
    passed_on _ _ (λ error. IsLong error → HasNoGroup (unread_of g.R.Read.remaining c.args.lines.now)) c.from_residual.ensures.1
    (long_in_group (unread_of g.R.Read.remaining c.args.lines.now) (unread_of g.R.Read.remaining c.texts.lines) c.texts.check (lines_given c.texts.lines) c.in_err-next_line.field-0.0 c.texts.invariant.far
    (subst (λ n. IsStreamFault (lines_given c.texts.lines) n (unread_of g.R.Read.remaining c.texts.lines) c.in_err-next_line.field-0.0) (c.texts.invariant.limit ∙ c.requires.limit) c.in_err-next_line.ensures.cause))

pub returns-then-fits-clause-group : goal.returns-then-fits-clause-group
returns-then-fits-clause-group g c =
    let more : c.in_ok-next_line.field-0 ≡ true = search rules in
    let line = c.next_line.new.line.items in
    let long : length line ≡ 20 = omega (arith, c.len.ensures, c.if-len-eq-CHECK_BYTES.true) in
    let check = rw c.deref.ensures.value at c.take-fits.ensures.check in (
      c.number-number.ensures,
      group_found (unread_of g.R.Read.remaining c.args.lines.now) (unread_of g.R.Read.remaining c.texts.lines) (unread_of g.R.Read.remaining c.next_line.new.self) c.texts.check line
          c.texts.invariant.far (c.in_ok-next_line.ensures.line more) ((check long).0 c.if-fits.true),
    )

pub returns-else-fits-clause-none : goal.returns-else-fits-clause-none
returns-else-fits-clause-none g c =
    let more : c.in_ok-next_line.field-0 ≡ true = search rules in
    let line = c.next_line.new.line.items in
    let long : length line ≡ 20 = omega (arith, c.len.ensures, c.if-len-eq-CHECK_BYTES.true) in
    let check = rw c.deref.ensures.value at c.take-fits.ensures.check in
    let differs : IsCheckOf c.texts.check line → ⊥ = λ is.
    let yes = (check long).1 is in
    let no = c.if-fits.false in
    absurd cc in
    other_found (unread_of g.R.Read.remaining c.args.lines.now) (unread_of g.R.Read.remaining c.texts.lines) (unread_of g.R.Read.remaining c.next_line.new.self) c.texts.check line
    c.texts.invariant.far (c.in_ok-next_line.ensures.line more) long differs

pub texts-smaller : goal.texts-smaller
texts-smaller g c =
    let more : c.in_ok-next_line.field-0 ≡ true = search rules in
    let given = rw more at c.in_ok-next_line.ensures.number in
    omega (arith, given, c.number-number.ensures, c.number-number.type_inv)

pub texts-preserved : goal.texts-preserved
texts-preserved g c =
    let more : c.in_ok-next_line.field-0 ≡ true = search rules in
    let line = c.next_line.new.line.items in
    let short : IsShort line = subst (λ n. length line ≤ n) c.requires.limit (subst (λ n. length line ≤ n) c.texts.invariant.limit (c.in_ok-next_line.ensures.within more)) in
    let is : IsText line = λ long. absurd (omega (arith, c.len.ensures, c.if-len-eq-CHECK_BYTES.false, long)) in
    let taken = rw c.deref.ensures.value at c.take-fits.ensures.text in
    record {
      stream = c.in_ok-next_line.ensures.stream;
      limit = c.in_ok-next_line.ensures.limit ∙ c.texts.invariant.limit;
      far = text_more (unread_of g.R.Read.remaining c.args.lines.now) (unread_of g.R.Read.remaining c.texts.lines) (unread_of g.R.Read.remaining c.next_line.new.self) c.texts.check _ line
          c.texts.invariant.far (c.in_ok-next_line.ensures.line more) short is (taken is).1;
    }

pub returns-clause-none : goal.returns-clause-none
returns-clause-none g c =
    let no : c.in_ok-next_line.field-0 ≡ false = search rules in
    none_found (unread_of g.R.Read.remaining c.args.lines.now) (unread_of g.R.Read.remaining c.texts.lines) c.texts.check c.texts.invariant.far (c.in_ok-next_line.ensures.done no).0

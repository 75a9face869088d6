use Rattle.std.proofs.Common.{◌≡◌, ◌+◌, ◌∷◌, ◌++◌, [], ◌∙◌, true, false, ℕ, List, length, Option, Some, None, IfSome, arith, rules, sym, ap}
use Rattle.std.proofs.lemmas.List.{length-append}
use Rattle.mds_journal.specs.Lines.{recovered_texts}
use Rattle.mds_journal.specs.Stream.{StandsForNothing, lines_given, unread_of}
use Rattle.mds_journal.proofs.StreamLemmas.{counts_first}
use Rattle.mds_retention.specs.Telling.{Gives}
use Rattle.mds_retention.proofs.Telling.{gives_all, gives_more}
use Rattle.mds_commands.proofs.vehicles.gate.pass_lines.Goals as goal

pub lines-smaller : goal.lines-smaller
lines-smaller g c =
    let more : c.in_ok-next_line.field-0 ≡ true = search rules in
    let given = rw more at c.in_ok-next_line.ensures.number in
    omega (arith, given, c.number-count-in-lines.ensures, c.number-count-in-lines.type_inv)

pub lines-preserved : goal.lines-preserved
lines-preserved g c =
    let more : c.in_ok-next_line.field-0 ≡ true = search rules in
    let given = rw more at c.in_ok-next_line.ensures.number in
    let so_far = c.lines.invariant.counted in
    let line = c.next_line.new.line.items in
    let known = unread_of g.R.Read.remaining c.args.lines.now in
    let middle = unread_of g.R.Read.remaining c.lines.lines in
    let left = unread_of g.R.Read.remaining c.next_line.new.self in
    record {
      stream = c.in_ok-next_line.ensures.stream;
      number = c.number-count-in-lines.ensures;
      counted = (
        so_far.0 ++ line ∷ [],
        gives_more known middle left so_far.0 line so_far.1 (counts_first middle left line (c.in_ok-next_line.ensures.line more)),
        omega (arith, given, so_far.2, length-append so_far.0 (line ∷ [])),
      );
    }

-- they are all
counted : (known left : Option (List ℕ)) (lines : List (List ℕ)) (old new : ℕ) → Gives known lines left → StandsForNothing left → new ≡ old + length lines
    → IfSome known (λ bytes. new ≡ old + length (recovered_texts bytes))
counted known left lines old new given none is = by known (gives_all known left lines given none) where
  by : (known : Option (List ℕ)) → IfSome known (λ bytes. recovered_texts bytes ≡ lines) → IfSome known (λ bytes. new ≡ old + length (recovered_texts bytes))
  by None all = tt
  by (Some bytes) all = is ∙ ap (λ (w : List (List ℕ)). old + length w) (sym all)

pub returns : goal.returns
returns g c =
    let no : c.in_ok-next_line.field-0 ≡ false = search rules in
    let so_far = c.lines.invariant.counted in
    counted (unread_of g.R.Read.remaining c.args.lines.now) (unread_of g.R.Read.remaining c.lines.lines) so_far.0 (lines_given c.args.lines.now) c.lines.count
    so_far.1 (c.in_ok-next_line.ensures.done no).0 (omega (arith, so_far.2, c.lines.invariant.number))

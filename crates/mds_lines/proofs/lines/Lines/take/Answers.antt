use Rattle.std.proofs.Common.{◌≡◌, ◌<◌, ◌+◌, ◌∷◌, ◌++◌, [], true, false, not, length, sym, ap, ◌∙◌, length-append, arith}
use Rattle.std.specs.Result.{is_ok}
use Rattle.mds_batch.specs.Batch.{max_items}
use Rattle.mds_lines.specs.Stream.{is_blank}
use Rattle.mds_lines.proofs.ErrorLemmas.{at_success, at_error}
use Rattle.mds_lines.proofs.LineLemmas.{hold_item}
use Rattle.mds_lines.proofs.lines.Lines.take.Goals as goal

pub returns-in-Err-Memory-clause-taken : goal.returns-in-Err-Memory-clause-taken
returns-in-Err-Memory-clause-taken g c = λ lines items held many. (items, λ before took. took, tt)

pub returns-in-Err-clause-taken : goal.returns-in-Err-clause-taken
returns-in-Err-clause-taken g c = λ lines items held many. (items, λ before took. took, tt)

pub returns-then-self-eq-MAX_ITEMS-clause-taken : goal.returns-then-self-eq-MAX_ITEMS-clause-taken
returns-then-self-eq-MAX_ITEMS-clause-taken g c = λ lines items held many. (items, λ before took. took, tt)

pub returns-then-is_err-clause-taken : goal.returns-then-is_err-clause-taken
returns-then-is_err-clause-taken g c = λ lines items held many.
    let failed : is_ok c.take.result ≡ false = c.is_err.ensures.negation ∙ ap not c.if-is_err.true in
    (items, λ before took. at_error c.take.result _ failed c.take.ensures.kept before items took, tt)

pub returns-clause-taken : goal.returns-clause-taken
returns-clause-taken g c = λ lines items held many.
    let item = c.in-Ok.item.now in
    let filled : is_blank c.args.line.now ≡ false = sym c.is_blank.ensures ∙ c.if-is_blank.false in
    let few : length items < max_items = omega (arith, held.few, many) in
    let done : is_ok c.take.result ≡ true = c.is_err.ensures.negation ∙ ap not c.if-is_err.false in
    let more : c.args.self.now.taken + 1 ≡ length (items ++ item ∷ []) = omega (arith, many, length-append items (item ∷ [])) in (
      items ++ item ∷ [],
      λ before took. at_success c.take.result _ done c.take.ensures.taken before items took few,
      (hold_item lines c.args.line.now items item filled c.in-Ok.ensures.item few held, more),
    )

use Rattle.std.proofs.Common.{◌≡◌, ◌+◌, ◌∙◌, ℕ, List, length, take, drop, All, sym, ap, subst, arith}
use Rattle.std.proofs.lemmas.List.{take_all}
use Rattle.std.proofs.lemmas.List.Elements.{All-push}
use Rattle.mds_check.specs.Form.{CheckState, IsCheckOf, IsText, behind_text, behind_texts}
use Rattle.mds_check.proofs.GroupLemmas.{behind_more}
use Rattle.mds_follow.specs.Pieces.{texts_in}
use Rattle.mds_follow.proofs.PieceLemmas.{texts_more, texts_split}
use Rattle.mds_groups.proofs.BehindLemmas.{no_check, other_check, with_check}
use Rattle.mds_follow.proofs.end.texts_of_group.Goals as goal

-- the check fits
pub returns-then-fits-clause-some : goal.returns-then-fits-clause-some
returns-then-fits-clause-some c =
    let lines = c.args.lines.now in
    let at = c.loop-place.place in
    let line = c.index-lines-place.result in
    let text = line.items in
    let split = texts_split lines at line c.loop-place-test.true c.index-lines-place.is in
    let long : length text ≡ 20 = omega (arith, c.len.ensures, c.if-len-eq-CHECK_BYTES.true) in
    let check = rw c.deref.ensures.value at c.take-fits.ensures.check in
    let fits : IsCheckOf (behind_texts (texts_in (take at lines))) text =
    subst (λ (w : CheckState). IsCheckOf w text) c.loop-place.invariant.check ((check long).0 c.if-fits.true) in (
      c.loop-place-test.true,
      with_check (texts_in lines) (texts_in (take at lines)) text (texts_in (drop (at + 1) lines)) c.loop-place.invariant.are fits split,
    )

-- it doesn't
pub returns-else-fits-clause-none : goal.returns-else-fits-clause-none
returns-else-fits-clause-none c =
    let lines = c.args.lines.now in
    let at = c.loop-place.place in
    let line = c.index-lines-place.result in
    let text = line.items in
    let split = texts_split lines at line c.loop-place-test.true c.index-lines-place.is in
    let long : length text ≡ 20 = omega (arith, c.len.ensures, c.if-len-eq-CHECK_BYTES.true) in
    let check = rw c.deref.ensures.value at c.take-fits.ensures.check in
    let differs : IsCheckOf (behind_texts (texts_in (take at lines))) text → ⊥ = λ is.
    let yes = (check long).1 (subst (λ (w : CheckState). IsCheckOf w text) (sym c.loop-place.invariant.check) is) in
    let no = c.if-fits.false in
    absurd cc in
    other_check (texts_in lines) (texts_in (take at lines)) text (texts_in (drop (at + 1) lines)) c.loop-place.invariant.are long differs split

-- the line is a text
pub loop-place-preserved : goal.loop-place-preserved
loop-place-preserved c =
    let lines = c.args.lines.now in
    let at = c.loop-place.place in
    let line = c.index-lines-place.result in
    let text = line.items in
    let more = texts_more lines at line c.loop-place-test.true c.index-lines-place.is in
    let is : IsText text = λ long. absurd (omega (arith, c.len.ensures, c.if-len-eq-CHECK_BYTES.false, long)) in
    let taken = rw c.deref.ensures.value at c.take-fits.ensures.text in
    record {
      check = (taken is).1 ∙ ap (λ (w : CheckState). behind_text w text) c.loop-place.invariant.check ∙ sym (behind_more (texts_in (take at lines)) text) ∙ ap behind_texts (sym more);
      are = subst (λ (w : List (List ℕ)). All IsText w) (sym more) (All-push IsText (texts_in (take at lines)) text c.loop-place.invariant.are is);
    }

-- none is as long as a check
pub returns-clause-none : goal.returns-clause-none
returns-clause-none c =
    let lines = c.args.lines.now in
    let at = c.loop-place.place in
    let all : take at lines ≡ lines = take_all at lines (omega (arith, c.loop-place-test.false)) in
    no_check (texts_in lines) (subst (λ w. All IsText (texts_in w)) all c.loop-place.invariant.are)

use Rattle.std.proofs.Common.{◌≡◌, ◌∙◌, ◌+◌, ◌<◌, ◌∷◌, ◌++◌, [], Bool, cond, take, List, Option, None, rules, refl, sym, ap, subst, inl, inr, length, arith}
use Rattle.std.proofs.lemmas.List.{length_push}
use Rattle.std.specs.Prelude.{IfSome, IfNone}
use Rattle.mds_core.specs.declared.request.Request.{Request}
use Rattle.mds_compact.specs.Compaction.{kept_of}
use Rattle.mds_compact.specs.Passes.{IsMarkingOf}
use Rattle.mds_compact.proofs.Kept.{kept_more}
use Rattle.mds_entries.specs.Entry.{Tells}
use Rattle.mds_retention.specs.Texts.{text_of, HandsOn, ReadsAll}
use Rattle.mds_retention.specs.Copying.{AreTotalsOf}
use Rattle.mds_retention.proofs.Telling.{passed_on}
use Rattle.mds_retention.proofs.Halfway.{goes_on, is_through, told_fewer, told_more}
use Rattle.mds_retention.proofs.Left.{IsMarkedSo, left_all, marked_by, marked_on}
use Rattle.mds_retention.proofs.passes.marks_of.Goals as goal

pub loop-left-init : goal.loop-left-init
loop-left-init g c = record {
  open_lines = c.open-lines.ensures.lines;
  kept = omega arith;
  seen = (
    [],
    c.open-lines.ensures.told,
    refl,
    search rules,
    search rules,
    λ from bytes history is begins count thinned.
        let cut = kept_of c.args.stays.now history in
        (history, refl, ([], c.open-marking.ensures from cut thinned, search rules)),
  );
}

pub loop-left-preserved : goal.loop-left-preserved
loop-left-preserved g c =
    let remaining = g.R.Read.remaining in
    let known = remaining c.args.reader in
    let was_lines = c.loop-left.lines in
    let new = c.next.new.self in
    let seen = c.loop-left.invariant.seen in
    let old = seen.0 in
    let both = c.loop-left.marks.items in
    let request = c.in-Some.request in
    let mark = c.mark_if-mark.result in
    let stays = c.args.stays.now in
    let i = c.loop-left.left-index in
    let On : Option Request → Type 0 = λ next. IfSome next (λ _. HandsOn remaining was_lines.texts new.texts) in
    let Told : Option Request → Type 0 = λ next. IfSome next (Tells (text_of new.texts)) in
    let told = told_more remaining known was_lines new old seen.1 request (subst On c.in-Some.is c.in_ok-request.ensures.next) (subst Told c.in-Some.is c.in_ok-request.ensures.request) in
    let kept : kept_of both old ++ cond mark (request ∷ []) [] ≡ kept_of (both ++ mark ∷ []) (old ++ request ∷ []) = sym (kept_more both old mark request seen.3) in
    let pushed = sym c.in_ok-push.ensures.items in
    let Kept : List Request → Type 0 = λ all. AreTotalsOf (old ++ request ∷ []) all c.count.new.self in
    let Counted : List Bool → Type 0 = λ all. Kept (kept_of all (old ++ request ∷ [])) in
    record {
      open_lines = c.in_ok-request.ensures.lines;
      kept = c.count.ensures.within;
      seen = (
        old ++ request ∷ [],
        told,
        length_push old request ∙ ap (λ n. n + 1) seen.2,
        ap length c.in_ok-push.ensures.items ∙ length_push both mark ∙ ap (λ n. n + 1) seen.3 ∙ sym (length_push old request),
        subst Counted pushed (subst Kept kept (c.count.ensures.counted old (kept_of both old) seen.4)),
        λ from bytes history is begins count thinned.
            let was = seen.5 from bytes history is begins count thinned in
            let more : length old < length history = omega (arith, seen.2, count, c.loop-left-test.true) in
            let next = goes_on remaining known new bytes old was.0 history request is begins was.1 told more in
            let Marked : List Bool → Type 0 = λ all. IsMarkedSo from stays (i + 1) (old ++ request ∷ []) next.0 all c.mark_if-mark.new.marking in (
              next.0,
              next.2,
              subst Marked pushed
                  (marked_on stays i _ from old was.0 request next.0 both mark c.loop-left.marking c.mark_if-mark.new.marking c.mark_if-mark.ensures.less c.mark_if-mark.ensures.marks seen.2
                  c.loop-left-test.true next.1 seen.3 was.2),
            ),
      );
    }

pub returns-in_err-request-clause-fault : goal.returns-in_err-request-clause-fault
returns-in_err-request-clause-fault g c =
    let seen = c.loop-left.invariant.seen in
    passed_on _ _ _ c.from_residual-in_err-request.ensures.1 (inl (c.in_err-request.ensures.fault (g.R.Read.remaining c.args.reader) seen.0 seen.1))

pub returns-in_default-clause-fault : goal.returns-in_default-clause-fault
returns-in_default-clause-fault g c =
    let remaining = g.R.Read.remaining in
    let was_lines = c.loop-left.lines in
    let new = c.next.new.self in
    let seen = c.loop-left.invariant.seen in
    let Done : Option Request → Type 0 = λ next. IfNone next (ReadsAll remaining was_lines.texts new.texts) in
    let none : c.in_ok-request.field-0 ≡ None = search rules in
    let few : length seen.0 < length c.args.stays.now = omega (arith, seen.2, c.loop-left-test.true) in
    inr (refl, told_fewer remaining (remaining c.args.reader) was_lines new seen.0 seen.1 (length c.args.stays.now) (subst Done none c.in_ok-request.ensures.done) few)

pub returns-clause-marks : goal.returns-clause-marks
returns-clause-marks g c = λ from bytes history is begins count thinned.
    let seen = c.loop-left.invariant.seen in
    let stays = c.args.stays.now in
    let i = c.loop-left.left-index in
    let both = c.loop-left.marks.items in
    let was = seen.5 from bytes history is begins count thinned in
    let every : length seen.0 ≡ length history = omega (arith, seen.2, count, c.loop-left-test.false, c.loop-left.auto.left-index-end) in
    let through = is_through seen.0 was.0 history was.1 every in
    let kept = left_all stays i seen.0 was.0 history c.loop-left-test.false through.0 through.1 in
    let marks = was.2.0 in
    let Rest : List Request → Type 0 = λ rest. IsMarkingOf from (kept_of (take i stays) seen.0) rest marks c.loop-left.marking in
    let Old : List Request → Type 0 = λ old. IsMarkingOf from old [] marks c.loop-left.marking in
    let Totals : List Request → Type 0 = λ old. AreTotalsOf old (kept_of both old) c.loop-left.totals in
    let all = subst Old kept.0 (subst Rest kept.1 was.2.1) in
    let same : kept_of both history ≡ kept_of marks (kept_of stays history) = ap (kept_of both) (sym through.1) ∙ was.2.2 ∙ ap (kept_of marks) kept.0 in
    (marked_by from (kept_of stays history) history marks both c.loop-left.marking (seen.3 ∙ every) same all, subst Totals through.1 seen.4)

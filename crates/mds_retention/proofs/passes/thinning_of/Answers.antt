use Rattle.std.proofs.Common.{◌≡◌, ◌∙◌, ◌+◌, ◌<◌, ◌∷◌, ◌++◌, [], List, Option, None, take, rules, refl, ap, subst, inl, inr, length, arith}
use Rattle.std.proofs.lemmas.List.{length_push}
use Rattle.std.specs.Prelude.{IfSome, IfNone}
use Rattle.mds_core.specs.declared.request.Request.{Request}
use Rattle.mds_compact.specs.Compaction.{kept_of}
use Rattle.mds_compact.specs.Passes.{IsThinningOf}
use Rattle.mds_entries.specs.Entry.{Tells}
use Rattle.mds_retention.specs.Texts.{text_of, HandsOn, ReadsAll}
use Rattle.mds_retention.proofs.Telling.{passed_on}
use Rattle.mds_retention.proofs.Halfway.{goes_on, is_through, told_fewer, told_more}
use Rattle.mds_retention.proofs.Left.{left_all, thinned_on}
use Rattle.mds_retention.proofs.passes.thinning_of.Goals as goal

pub loop-mark-init : goal.loop-mark-init
loop-mark-init g c = record {
  open_lines = c.open-lines.ensures.lines;
  seen = (
    [],
    c.open-lines.ensures.told,
    refl,
    λ bytes history is begins count survey. (history, refl, c.open-thinning.ensures (kept_of c.args.stays.now history) survey),
  );
}

pub loop-mark-preserved : goal.loop-mark-preserved
loop-mark-preserved g c =
    let remaining = g.R.Read.remaining in
    let known = remaining c.args.reader in
    let was_lines = c.loop-mark.lines in
    let new = c.next.new.self in
    let seen = c.loop-mark.invariant.seen in
    let old = seen.0 in
    let request = c.in-Some.request in
    let stays = c.args.stays.now in
    let i = c.loop-mark.mark-index in
    let On : Option Request → Type 0 = λ next. IfSome next (λ _. HandsOn remaining was_lines.texts new.texts) in
    let Told : Option Request → Type 0 = λ next. IfSome next (Tells (text_of new.texts)) in
    let told = told_more remaining known was_lines new old seen.1 request (subst On c.in-Some.is c.in_ok-request.ensures.next) (subst Told c.in-Some.is c.in_ok-request.ensures.request) in
    record {
      open_lines = c.in_ok-request.ensures.lines;
      seen = (
        old ++ request ∷ [],
        told,
        length_push old request ∙ ap (λ n. n + 1) seen.2,
        λ bytes history is begins count survey.
            let was = seen.3 bytes history is begins count survey in
            let more : length old < length history = omega (arith, seen.2, count, c.loop-mark-test.true) in
            let next = goes_on remaining known new bytes old was.0 history request is begins was.1 told more in
            (next.0, next.2, thinned_on stays i _ c.args.from old was.0 request next.0 c.loop-mark.thinning c.take_if.new.thinning c.in_ok-take_if.ensures seen.2 c.loop-mark-test.true next.1 was.2),
      );
    }

pub returns-in_err-request-clause-fault : goal.returns-in_err-request-clause-fault
returns-in_err-request-clause-fault g c =
    let seen = c.loop-mark.invariant.seen in
    passed_on _ _ _ c.from_residual.ensures.1 (inl (c.in_err-request.ensures.fault (g.R.Read.remaining c.args.reader) seen.0 seen.1))

pub returns-in_default-clause-fault : goal.returns-in_default-clause-fault
returns-in_default-clause-fault g c =
    let remaining = g.R.Read.remaining in
    let was_lines = c.loop-mark.lines in
    let new = c.next.new.self in
    let seen = c.loop-mark.invariant.seen in
    let Done : Option Request → Type 0 = λ next. IfNone next (ReadsAll remaining was_lines.texts new.texts) in
    let none : c.in_ok-request.field-0 ≡ None = search rules in
    let few : length seen.0 < length c.args.stays.now = omega (arith, seen.2, c.loop-mark-test.true) in
    inr (refl, told_fewer remaining (remaining c.args.reader) was_lines new seen.0 seen.1 (length c.args.stays.now) (subst Done none c.in_ok-request.ensures.done) few)

pub returns-clause-thinning : goal.returns-clause-thinning
returns-clause-thinning g c = λ bytes history is begins count survey.
    let seen = c.loop-mark.invariant.seen in
    let stays = c.args.stays.now in
    let i = c.loop-mark.mark-index in
    let was = seen.3 bytes history is begins count survey in
    let every : length seen.0 ≡ length history = omega (arith, seen.2, count, c.loop-mark-test.false, c.loop-mark.auto.mark-index-end) in
    let through = is_through seen.0 was.0 history was.1 every in
    let kept = left_all stays i seen.0 was.0 history c.loop-mark-test.false through.0 through.1 in
    let Rest : List Request → Type 0 = λ rest. IsThinningOf c.args.from (kept_of (take i stays) seen.0) rest c.loop-mark.thinning in
    let Old : List Request → Type 0 = λ old. IsThinningOf c.args.from old [] c.loop-mark.thinning in
    subst Old kept.0 (subst Rest kept.1 was.2)

use Rattle.std.proofs.Common.{◌≡◌, ◌∙◌, ◌+◌, ◌<◌, ◌^◌, ◌∷◌, ◌++◌, [], Option, None, rules, length, sym, ap, subst, arith}
use Rattle.std.below.core.specs.declared.int.usize.TheConstants.{MAX}
use Rattle.std.proofs.lemmas.List.{length_push}
use Rattle.std.specs.Prelude.{IfSome, IfNone}
use Rattle.mds_core.specs.declared.request.Request.{Request}
use Rattle.mds_entries.specs.Entry.{Tells}
use Rattle.mds_retention.specs.declared.place.Place.{Place}
use Rattle.mds_retention.specs.Place.{IsTakenTo}
use Rattle.mds_retention.specs.Texts.{text_of, HandsOn, ReadsAll}
use Rattle.mds_retention.proofs.Halfway.{told_all, told_more}
use Rattle.mds_retention.proofs.Telling.{passed_on}
use Rattle.mds_retention.proofs.passes.survey_of.Goals as goal

pub requests-init : goal.requests-init
requests-init g c = record { open_lines = c.open-lines.ensures.lines; seen = ([], c.open-lines.ensures.told, c.open-lines.ensures.count, search rules, search rules) }

pub requests-preserved : goal.requests-preserved
requests-preserved g c =
    let remaining = g.R.Read.remaining in
    let old = c.requests.lines in
    let new = c.next.new.self in
    let seen = c.requests.invariant.seen in
    let history = seen.0 in
    let request = c.in-Some.request in
    let On : Option Request → Type 0 = λ next. IfSome next (λ _. HandsOn remaining old.texts new.texts) in
    let Told : Option Request → Type 0 = λ next. IfSome next (Tells (text_of new.texts)) in
    let Number : Option Request → Type 0 = λ next. IfSome next (λ _. new.texts.count ≡ old.texts.count + 1) in
    let Few : Option Request → Type 0 = λ next. IfSome next (λ _. new.texts.count < 2 ^ 64) in
    let number : new.texts.count ≡ old.texts.count + 1 = subst Number c.in-Some.is c.in_ok-request.ensures.number in
    let below : new.texts.count < 2 ^ 64 = subst Few c.in-Some.is c.in_ok-request.ensures.few in
    let few : length history < MAX = omega (arith, seen.2, number, below) in
    record {
      open_lines = c.in_ok-request.ensures.lines;
      seen = (
        history ++ request ∷ [],
        told_more remaining (remaining c.args.reader) old new history seen.1 request (subst On c.in-Some.is c.in_ok-request.ensures.next) (subst Told c.in-Some.is c.in_ok-request.ensures.request),
        number ∙ ap (λ n. n + 1) seen.2 ∙ sym (length_push history request),
        c.in_ok-note.ensures.count ∙ ap (λ n. n + 1) seen.3 ∙ sym (length_push history request),
        λ cuts is. c.in_ok-note.ensures.surveyed cuts history few (seen.4 cuts is),
      );
    }

pub requests-smaller : goal.requests-smaller
requests-smaller g c =
    let was = c.requests.lines in
    let now = c.next.new.self in
    let Number : Option Request → Type 0 = λ next. IfSome next (λ _. now.texts.count ≡ was.texts.count + 1) in
    let Few : Option Request → Type 0 = λ next. IfSome next (λ _. now.texts.count < 2 ^ 64) in
    let number : now.texts.count ≡ was.texts.count + 1 = subst Number c.in-Some.is c.in_ok-request.ensures.number in
    let few : now.texts.count < 2 ^ 64 = subst Few c.in-Some.is c.in_ok-request.ensures.few in
    omega (arith, number, few)

pub returns-in_default-clause-survey : goal.returns-in_default-clause-survey
returns-in_default-clause-survey g c =
    let remaining = g.R.Read.remaining in
    let known = remaining c.args.reader in
    let old = c.requests.lines in
    let new = c.next.new.self in
    let seen = c.requests.invariant.seen in
    let Done : Option Request → Type 0 = λ next. IfNone next (ReadsAll remaining old.texts new.texts) in
    let none : c.in_ok-request.field-0 ≡ None = search rules in
    let taken = told_all remaining known old new seen.0 seen.1 (subst Done none c.in_ok-request.ensures.done) in
    let Taken : Place → Type 0 = λ (place : Place). IsTakenTo known seen.0 place in (
      seen.0,
      subst Taken (sym c.place-surveyed.ensures) taken,
      seen.3,
      λ cuts is.
          let all = seen.4 cuts is in
          record { cutting = all.cutting; survey = all.survey },
    )

pub returns-in_err-request-clause-fault : goal.returns-in_err-request-clause-fault
returns-in_err-request-clause-fault g c =
    let seen = c.requests.invariant.seen in
    passed_on _ _ _ c.from_residual.ensures.1 (c.in_err-request.ensures.fault (g.R.Read.remaining c.args.reader) seen.0 seen.1)

use Rattle.std.proofs.Common.{◌≡◌, ◌+◌, ◌<◌, ◌^◌, ◌∷◌, ◌++◌, [], ℕ, List, Option, None, sym, subst, append_assoc, append-nil, arith, rules}
use Rattle.std.specs.Prelude.{IfSome, IfNone}
use Rattle.mds_core.specs.declared.request.Request.{Request}
use Rattle.mds_entries.specs.Entry.{Tells}
use Rattle.mds_groups.specs.Form.{texts_in}
use Rattle.mds_retention.specs.Copying.{AreTotalsOf}
use Rattle.mds_retention.specs.Draft.{IsDraftOf}
use Rattle.mds_retention.specs.Place.{HasAll}
use Rattle.mds_retention.specs.Texts.{text_of, HandsOn, HasRead, ReadsAll}
use Rattle.mds_retention.specs.declared.place.Place.{Place}
use Rattle.mds_retention.proofs.Telling.{passed_on, told_zip, zip_append}
use Rattle.mds_retention.proofs.rest.copy_rest.Goals as goal

pub lines-init : goal.lines-init
lines-init g c =
    let seen = g.D.Device.seen in
    let start = c.args.start in
    record {
      reading = c.behind-lines.ensures.lines;
      usable = c.requires.usable;
      within = c.requires.within;
      seen = (
        [],
        [],
        tt,
        λ known lines groups at gives. subst (HasRead g.R.Read.remaining known c.behind-lines.result.texts) (sym (append-nil (texts_in groups))) (c.behind-lines.ensures.read known lines groups at gives),
        λ old new are. subst (λ (w : List Request). AreTotalsOf w (new ++ []) start.totals) (sym (append-nil old)) (subst (λ (w : List Request). AreTotalsOf old w start.totals) (sym (append-nil new)) are),
        λ texts was. subst (λ (w : List (List ℕ)). IsDraftOf seen g.D.Device.may_leave g.D.Device.is_true w c.args.draft.now) (sym (append-nil texts)) was,
      );
    }

pub add_text-requires-clause-draft : goal.add_text-requires-clause-draft
add_text-requires-clause-draft g c = (_, c.lines.invariant.seen.5 c.requires.draft.0 c.requires.draft.1)

pub lines-preserved : goal.lines-preserved
lines-preserved g c =
    let remaining = g.R.Read.remaining in
    let was_lines = c.lines.lines in
    let now = c.next.new.self in
    let text = text_of now.texts in
    let seen = c.lines.invariant.seen in
    let rest = seen.0 in
    let tail = seen.1 in
    let request = c.in-Some.request in
    let On : Option Request → Type 0 = λ next. IfSome next (λ _. HandsOn remaining was_lines.texts now.texts) in
    let Told : Option Request → Type 0 = λ next. IfSome next (Tells text) in
    let on = subst On c.in-Some.is c.in_ok-request.ensures.next in
    let tells = subst Told c.in-Some.is c.in_ok-request.ensures.request in
    let Drafted : List (List ℕ) → Type 0 = λ (all : List (List ℕ)). IsDraftOf g.D.Device.seen g.D.Device.may_leave g.D.Device.is_true all c.add_text.new.self in
    record {
      reading = c.in_ok-request.ensures.lines;
      usable = c.in_ok-add_text.ensures.usable;
      within = c.in_ok-totals.ensures.within;
      seen = (
        rest ++ text ∷ [],
        tail ++ request ∷ [],
        told_zip rest tail text request seen.2 tells,
        λ known lines groups at gives.
            subst (HasRead remaining known now.texts) (append_assoc (texts_in groups) rest (text ∷ [])) (on known (texts_in groups ++ rest) (seen.3 known lines groups at gives)).0,
        λ old new are.
            subst (λ (w : List Request). AreTotalsOf w (new ++ (tail ++ request ∷ [])) c.in_ok-totals.totals) (append_assoc old tail (request ∷ []))
            (subst (λ (w : List Request). AreTotalsOf ((old ++ tail) ++ request ∷ []) w c.in_ok-totals.totals) (append_assoc new tail (request ∷ []))
            (c.in_ok-totals.ensures.counted (old ++ tail) (new ++ tail) (seen.4 old new are))),
        λ texts was.
            subst Drafted (append_assoc texts rest (text ∷ []))
            (subst (λ (line : List ℕ). Drafted ((texts ++ rest) ++ line ∷ [])) c.text.ensures (c.in_ok-add_text.ensures.draft (texts ++ rest) (seen.5 texts was))),
      );
    }

pub lines-smaller : goal.lines-smaller
lines-smaller g c =
    let was_lines = c.lines.lines in
    let now = c.next.new.self in
    let Number : Option Request → Type 0 = λ next. IfSome next (λ _. now.texts.count ≡ was_lines.texts.count + 1) in
    let Few : Option Request → Type 0 = λ next. IfSome next (λ _. now.texts.count < 2 ^ 64) in
    let number : now.texts.count ≡ was_lines.texts.count + 1 = subst Number c.in-Some.is c.in_ok-request.ensures.number in
    let few : now.texts.count < 2 ^ 64 = subst Few c.in-Some.is c.in_ok-request.ensures.few in
    omega (arith, number, few)

pub returns-in_default-clause-copied : goal.returns-in_default-clause-copied
returns-in_default-clause-copied g c =
    let seen = c.lines.invariant.seen in
    let Done : Option Request → Type 0 = λ next. IfNone next (ReadsAll g.R.Read.remaining c.lines.lines.texts c.next.new.self.texts) in
    let none : c.in_ok-request.field-0 ≡ None = search rules in
    let done = subst Done none c.in_ok-request.ensures.done in (
      seen.0,
      seen.1,
      seen.2,
      λ known lines groups at gives.
          let All : Place → Type 0 = λ (w : Place). HasAll known (texts_in groups ++ seen.0) w in
          subst All (sym c.place.ensures) (done known (texts_in groups ++ seen.0) (seen.3 known lines groups at gives)),
      seen.4,
      seen.5,
    )

pub returns-in_err-request-clause-fault : goal.returns-in_err-request-clause-fault
returns-in_err-request-clause-fault g c =
    let seen = c.lines.invariant.seen in
    passed_on _ _ _ c.from_residual.ensures.1 (λ known lines groups history at gives told.
    c.in_err-request.ensures.fault known (history ++ seen.1)
    (texts_in groups ++ seen.0, seen.3 known lines groups at gives, zip_append (texts_in groups) seen.0 history seen.1 told seen.2))

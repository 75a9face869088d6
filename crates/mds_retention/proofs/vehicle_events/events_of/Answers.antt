use Rattle.std.proofs.Common.{◌≡◌, ◌+◌, ◌<◌, ◌^◌, ◌∷◌, ◌++◌, [], ℕ, List, Option, None, refl, rules, sym, subst, arith}
use Rattle.std.specs.Prelude.{IfSome, IfNone, MatchOption}
use Rattle.mds_core.specs.declared.key.Key.{Key}
use Rattle.mds_core.specs.declared.request.Request.{Request}
use Rattle.mds_entries.specs.Entry.{Tells}
use Rattle.mds_retention.specs.Events.{AreEventsOf, HasEvents, HasNothingOf}
use Rattle.mds_retention.specs.Texts.{text_of, HandsOn, ReadsAll}
use Rattle.mds_retention.proofs.Telling.{passed_on, told_count, told_zip}
use Rattle.mds_retention.proofs.Events.{events_all, found_if}
use Rattle.mds_retention.proofs.vehicle_events.events_of.Goals as goal

pub requests-init : goal.requests-init
requests-init g c = record { open_lines = c.open-lines.ensures.lines; seen = ([], c.open-lines.ensures.told, record { vehicle = refl; there = refl; lines = search rules }) }

pub requests-preserved : goal.requests-preserved
requests-preserved g c =
    let remaining = g.R.Read.remaining in
    let known = remaining c.args.reader in
    let was = c.requests.lines in
    let now = c.next.new.self in
    let text = text_of now.texts in
    let seen = c.requests.invariant.seen in
    let history = seen.0 in
    let texts = seen.1.0 in
    let request = c.in-Some.request in
    let On : Option Request → Type 0 = λ next. IfSome next (λ _. HandsOn remaining was.texts now.texts) in
    let Told : Option Request → Type 0 = λ next. IfSome next (Tells text) in
    let on = subst On c.in-Some.is c.in_ok-request.ensures.next in
    let tells = subst Told c.in-Some.is c.in_ok-request.ensures.request in
    let vehicle = seen.2.vehicle in
    let Was : Key → Type 0 = λ key. AreEventsOf key history texts c.requests.events in
    let Now : Key → Type 0 = λ key. AreEventsOf key (history ++ request ∷ []) (texts ++ text ∷ []) c.take.new.self in
    let Read : List ℕ → Type 0 = λ line. AreEventsOf c.requests.events.key (history ++ request ∷ []) (texts ++ line ∷ []) c.take.new.self in
    let taken = subst Read c.text.ensures (c.in_ok-take.ensures history texts (told_count texts history seen.1.2) (subst Was (sym vehicle) seen.2)) in
    record {
      open_lines = c.in_ok-request.ensures.lines;
      seen = (
        history ++ request ∷ [],
        (texts ++ text ∷ [], (on known texts seen.1.1).0, told_zip texts history text request seen.1.2 tells),
        subst Now vehicle taken,
      );
    }

pub requests-smaller : goal.requests-smaller
requests-smaller g c =
    let was = c.requests.lines in
    let now = c.next.new.self in
    let Number : Option Request → Type 0 = λ next. IfSome next (λ _. now.texts.count ≡ was.texts.count + 1) in
    let Few : Option Request → Type 0 = λ next. IfSome next (λ _. now.texts.count < 2 ^ 64) in
    let number : now.texts.count ≡ was.texts.count + 1 = subst Number c.in-Some.is c.in_ok-request.ensures.number in
    let few : now.texts.count < 2 ^ 64 = subst Few c.in-Some.is c.in_ok-request.ensures.few in
    omega (arith, number, few)

pub returns-in_default-clause-told : goal.returns-in_default-clause-told
returns-in_default-clause-told g c =
    let remaining = g.R.Read.remaining in
    let known = remaining c.args.reader in
    let seen = c.requests.invariant.seen in
    let events = c.requests.events in
    let Done : Option Request → Type 0 = λ next. IfNone next (ReadsAll remaining c.requests.lines.texts c.next.new.self.texts) in
    let none : c.in_ok-request.field-0 ≡ None = search rules in
    let done = subst Done none c.in_ok-request.ensures.done known seen.1.0 seen.1.1 in
    let all = events_all known seen.1.0 seen.0 c.next.new.self.texts.place c.args.key events done seen.1.2 seen.2 in
    subst (λ found. MatchOption found (HasNothingOf c.args.key known) (λ lines. HasEvents c.args.key known lines.items)) (sym c.into_lines.ensures)
    (found_if events.is_there events.lines (HasNothingOf c.args.key known) (λ lines. HasEvents c.args.key known lines.items) all)

pub returns-in_err-request-clause-fault : goal.returns-in_err-request-clause-fault
returns-in_err-request-clause-fault g c =
    let seen = c.requests.invariant.seen in
    passed_on _ _ _ c.from_residual.ensures.1 (c.in_err-request.ensures.fault (g.R.Read.remaining c.args.reader) seen.0 seen.1)

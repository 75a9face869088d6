use Rattle.std.proofs.Common.{◌≡◌, ◌∙◌, ◌∷◌, ◌++◌, [], not, Bool, true, false, None, refl, sym, ap, rules, append_assoc}
use Rattle.mds_core.specs.History.{same_key, report_of}
use Rattle.mds_retention.proofs.Events.{events_other, events_none, events_more}
use Rattle.mds_retention.proofs.vehicle_events.VehicleEvents.take.Goals as goal

turned : (b c : Bool) → not b ≡ c → b ≡ not c
turned true c is = ap not is
turned false c is = ap not is

pub returns-then-ne : goal.returns-then-ne
returns-then-ne c = λ history texts same are.
    let events = c.args.self.now in
    let differs = turned (same_key c.key.result.now events.key) true (sym c.ne.ensures ∙ c.if-ne.true) in
    events_other events.key history texts c.args.request.now c.args.text.now events (ap (λ key. same_key key events.key) (sym c.key.ensures) ∙ differs) same are

pub returns-in_ok-push : goal.returns-in_ok-push
returns-in_ok-push c = λ history texts same are.
    let events = c.args.self.now in
    let request = c.args.request.now in
    let text = c.args.text.now in
    let own = turned (same_key c.key.result.now events.key) false (sym c.ne.ensures ∙ c.if-ne.false) in
    let some : report_of request ≡ None → ⊥ = λ none. search rules in
    let added = c.in_ok-push.ensures.items ∙ ap (λ all. all ++ 10 ∷ []) c.in_ok-extend_from_slice.ensures.items ∙ append_assoc events.lines.items text (10 ∷ []) in
    events_more events.key history texts request text events _ (ap (λ key. same_key key events.key) (sym c.key.ensures) ∙ own) some same are refl refl added

pub returns-else-is_some : goal.returns-else-is_some
returns-else-is_some c = λ history texts same are.
    let events = c.args.self.now in
    let request = c.args.request.now in
    let own = turned (same_key c.key.result.now events.key) false (sym c.ne.ensures ∙ c.if-ne.false) in
    let none : report_of request ≡ None = search rules in
    events_none events.key history texts request c.args.text.now events _ (ap (λ key. same_key key events.key) (sym c.key.ensures) ∙ own) none same are refl refl refl

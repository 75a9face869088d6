use Rattle.std.proofs.Common.{◌≡◌, ◌∙◌, ◌+◌, ◌++◌, ◌∷◌, [], None, true, length, rules, sym, ap, arith, length-append}
use Rattle.mds_core.specs.History.{report_of, reports}
use Rattle.mds_compact.specs.declared.cutting.Front.{Front}
use Rattle.mds_compact.proofs.Tallies.{none_more, event_more, reports_few}
use Rattle.mds_compact.proofs.cutting.Front.next_mark.Goals as goal

pub returns-then-is_some-clause-front : goal.returns-then-is_some-clause-front
returns-then-is_some-clause-front c = λ requests few is.
    let request = c.args.request.now in
    let most = c.args.self.now.most in
    let some : report_of request ≡ None → ⊥ = λ none. search rules in
    let count = ap (λ (one : Front). one.requests) is in
    let events = ap (λ (one : Front). one.events) is in
    let requests_now : c.saturating_add-self.result ≡ length (requests ++ request ∷ []) = omega (arith, c.saturating_add-self.ensures, count, few, length-append requests (request ∷ [])) in
    let one_more : c.saturating_add-self-then-is_some.result ≡ length (reports requests) + 1 =
    omega (arith, c.saturating_add-self-then-is_some.ensures, events, few, reports_few requests) in
    let events_now = one_more ∙ sym (event_more requests request some) in
    ap (λ n. record { most = most; requests = n; events = c.saturating_add-self-then-is_some.result }) requests_now
    ∙ ap (λ n. record { most = most; requests = length (requests ++ request ∷ []); events = n }) events_now

pub returns-else-is_some-clause-front : goal.returns-else-is_some-clause-front
returns-else-is_some-clause-front c = λ requests few is.
    let request = c.args.request.now in
    let most = c.args.self.now.most in
    let none : report_of request ≡ None = search rules in
    let count = ap (λ (one : Front). one.requests) is in
    let events_now = ap (λ (one : Front). one.events) is ∙ sym (none_more requests request true none) in
    let requests_now : c.saturating_add-self.result ≡ length (requests ++ request ∷ []) = omega (arith, c.saturating_add-self.ensures, count, few, length-append requests (request ∷ [])) in
    ap (λ n. record { most = most; requests = n; events = c.args.self.now.events }) requests_now
    ∙ ap (λ n. record { most = most; requests = length (requests ++ request ∷ []); events = n }) events_now

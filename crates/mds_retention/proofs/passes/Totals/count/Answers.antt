use Rattle.std.proofs.Common.{◌≡◌, ◌∙◌, ◌+◌, ◌∷◌, ◌++◌, [], true, None, cond, length, rules, sym, ap, append-nil, arith}
use Rattle.std.proofs.lemmas.List.{length_push}
use Rattle.mds_core.specs.History.{report_of, reports}
use Rattle.mds_compact.proofs.Tallies.{none_more, event_more}
use Rattle.mds_retention.proofs.passes.Totals.count.Goals as goal

pub returns-then-is_none-clause-counted : goal.returns-then-is_none-clause-counted
returns-then-is_none-clause-counted c = λ history kept are.
    let request = c.args.request.now in
    let none : report_of request ≡ None = search rules in
    record {
      events = are.events ∙ sym (none_more history request true none);
      all = omega (arith, are.all, length_push history request);
      kept = are.kept ∙ sym (none_more kept request c.args.stays none);
    }

pub returns-then-stays-clause-counted : goal.returns-then-stays-clause-counted
returns-then-stays-clause-counted c = λ history kept are.
    let request = c.args.request.now in
    let some : report_of request ≡ None → ⊥ = λ none. search rules in
    let stays = ap (λ b. kept ++ cond b (request ∷ []) []) c.if-stays.true in
    record {
      events = ap (λ n. n + 1) are.events ∙ sym (event_more history request some);
      all = omega (arith, are.all, length_push history request);
      kept = ap (λ n. n + 1) are.kept ∙ sym (event_more kept request some) ∙ sym (ap (λ all. length (reports all)) stays);
    }

pub returns-else-stays-clause-counted : goal.returns-else-stays-clause-counted
returns-else-stays-clause-counted c = λ history kept are.
    let request = c.args.request.now in
    let some : report_of request ≡ None → ⊥ = λ none. search rules in
    let goes = ap (λ b. kept ++ cond b (request ∷ []) []) c.if-stays.false in
    record {
      events = ap (λ n. n + 1) are.events ∙ sym (event_more history request some);
      all = omega (arith, are.all, length_push history request);
      kept = are.kept ∙ sym (ap (λ all. length (reports all)) (goes ∙ append-nil kept));
    }

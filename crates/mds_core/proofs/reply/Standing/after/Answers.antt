use Rattle.std.proofs.Common.{◌≡◌, ◌+◌, ◌∙◌, length, Some, sym, ap, arith}
use Rattle.std.specs.Option.{option_or}
use Rattle.mds_core.specs.History.{reports}
use Rattle.mds_core.proofs.Standings.{standing_of-push}
use Rattle.mds_core.proofs.reply.Standing.after.Goals as goal

pub returns-clause-list : goal.returns-clause-list
returns-clause-list c = λ requests is few.
    let count : c.args.self.now.events ≡ length (reports requests) = ap (λ standing. standing.events) is in
    let events : c.saturating_add.result ≡ length (reports requests) + 1 = omega (arith, c.saturating_add.ensures, count, few) in
    let position = c.or.ensures ∙ ap (λ p. option_or p c.args.self.now.position) c.position.ensures ∙ ap (λ standing. option_or c.args.event.now.position standing.position) is in
    let parts : record { state = c.state.result; events = c.saturating_add.result; last = Some c.time.result; position = c.or.result } ≡ _ =
    λ i. record { state = c.state.ensures i; events = events i; last = Some (c.time.ensures.time i); position = position i } in
    parts ∙ sym (standing_of-push requests c.args.event.now)

use Rattle.std.proofs.Common.{◌∙◌, sym, ap}
use Rattle.std.specs.Option.{unwrap_or}
use Rattle.mds_core.specs.Known.{standing_if}
use Rattle.mds_core.proofs.Standings.{standing_of-push_none, standing_if-unwrapped}
use Rattle.mds_core.proofs.lookup.standing_after.Goals as goal

pub returns-in-None : goal.returns-in-None
returns-in-None c = λ requests is few.
    let before = c.unwrap_or-standing.ensures ∙ ap (λ s. unwrap_or s c.at_registration.result) is ∙ ap (unwrap_or (standing_if requests)) c.at_registration.ensures.fields ∙ standing_if-unwrapped requests in
    before ∙ sym (standing_of-push_none requests c.args.request.now (sym c.in-None.ensures))

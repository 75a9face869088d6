use Rattle.std.proofs.Common.{◌∙◌, Some, sym, ap}
use Rattle.mds_core.proofs.Histories.{same_key_is}
use Rattle.mds_shard.proofs.vehicle.own_place.Goals as goal

pub returns-then-eq : goal.returns-then-eq
returns-then-eq c =
    let kept = c.in_ok-kept.kept.now in
    let vehicle = c.in_ok-kept.field-0-1.now in
    (vehicle, sym c.in_ok-kept.ensures.entry ∙ ap (λ k. Some (k, vehicle)) (same_key_is kept c.args.key.now (sym c.eq.ensures ∙ c.if-eq.true)))

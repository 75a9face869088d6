use Rattle.std.proofs.Common.{◌∙◌, sym}
use Rattle.mds_known.proofs.Places.{same_at}
use Rattle.mds_known.proofs.known_vehicles.KnownVehicles.own_place.Goals as goal

pub returns-then-eq : goal.returns-then-eq
returns-then-eq g c =
    let kept = c.in_ok-kept.kept.now in
    let value = c.in_ok-kept.field-0-1.now in
    (value, rw (← c.self.view_is) (same_at c.self.inside.vehicles.entries c.args.key.now kept value c.in_ok-place.place (sym c.eq.ensures ∙ c.if-eq.true) c.in_ok-kept.ensures.entry))

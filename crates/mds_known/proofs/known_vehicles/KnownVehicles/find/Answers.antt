use Rattle.mds_known.proofs.Places.{found_at}
use Rattle.mds_known.proofs.known_vehicles.KnownVehicles.find.Goals as goal

pub returns-clause-place : goal.returns-clause-place
returns-clause-place g c =
    let entries = c.self.inside.vehicles.entries in
    rw (← c.self.view_is)
    (found_at entries c.args.key.now c.in_ok-place.field-0-1.now c.in_ok-place.value.now c.in_ok-place.place c.in_ok-place.ensures.key c.in_ok-place.ensures.entry)

use Rattle.std.proofs.Common.{◌∙◌}
use Rattle.mds_known.proofs.Names.{named_at}
use Rattle.mds_known.proofs.known_vehicles.KnownVehicles.has_event.Goals as goal

pub returns : goal.returns
returns g c = λ key value at.
    let entries = c.self.inside.vehicles.entries in
    let names = c.self.inside.names.keys in
    let kept = rw (← c.self.view_is) at at in
    let named = named_at entries names c.self.invariant c.args.place c.args.id c.own_name-name.result c.own_name-name.ensures key value kept in
    rw (← c.self.view_is) (c.contains.ensures ∙ named)

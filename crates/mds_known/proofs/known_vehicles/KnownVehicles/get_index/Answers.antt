use Rattle.mds_known.proofs.known_vehicles.KnownVehicles.get_index.Goals as goal

pub returns-clause-value : goal.returns-clause-value
returns-clause-value g c = rw (← c.self.view_is) c.get_index.ensures.value

use Rattle.mds_table.proofs.ByPlaces.{to_places, from_places}
use Rattle.mds_table.proofs.laws.chains_go_by_places.Goals as goal

pub returns : goal.returns
returns c rows held kinds reported chain = (to_places rows held kinds reported chain, from_places rows held kinds reported chain)

use Rattle.mds_book.proofs.SightLaws.{accepted_stands}
use Rattle.mds_book.proofs.laws.accepted_stands.Goals as goal

pub returns : goal.returns
returns c tables old new later request reply called done begins = accepted_stands tables old new later request reply called done begins

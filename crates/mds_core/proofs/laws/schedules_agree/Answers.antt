use Rattle.mds_core.proofs.RunLaws.{agreed}
use Rattle.mds_core.proofs.laws.schedules_agree.Goals as goal

pub returns : goal.returns
returns c tables key requests others replies answers new other same first second = agreed tables key requests others replies answers new other same first second

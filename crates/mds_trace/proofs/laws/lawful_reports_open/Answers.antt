use Rattle.mds_trace.proofs.Lawful.{lawful_reports_open as law}
use Rattle.mds_trace.proofs.laws.lawful_reports_open.Goals as goal

pub returns : goal.returns
returns c = law

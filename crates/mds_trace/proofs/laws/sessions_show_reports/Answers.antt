use Rattle.mds_trace.proofs.Told.{sessions_show_reports as law}
use Rattle.mds_trace.proofs.laws.sessions_show_reports.Goals as goal

pub returns : goal.returns
returns c = law

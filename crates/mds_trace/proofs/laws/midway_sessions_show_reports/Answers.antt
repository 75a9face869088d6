use Rattle.mds_trace.proofs.Midway.{midway_sessions_show_reports as law}
use Rattle.mds_trace.proofs.laws.midway_sessions_show_reports.Goals as goal

pub returns : goal.returns
returns c = law

use Rattle.std.proofs.Common.{true, false, refl, ap}
use Rattle.mds_file.specs.Calls.{Measure, calls_in}
use Rattle.mds_file.proofs.CallLemmas.{untouched, before_it, answer_is, still_synced, done_cause, failed_cause}
use Rattle.mds_file.proofs.disk_file.DiskFileDevice.size.Goals as goal

pub returns-in-Ok : goal.returns-in-Ok
returns-in-Ok g c = record {
  size = λ is. answer_is g.O.Origin.first g.O.Origin.left _ _ (Measure true c.len-size.result) (ap calls_in c.note.ensures) is;
  untouched = λ is. untouched g.O.Origin.first g.O.Origin.left (λ f. calls_in f.calls.made) _ _ (Measure true c.len-size.result) tt (ap calls_in c.note.ensures);
  was_true = λ is. before_it g.O.Origin.first g.O.Origin.left _ _ (Measure true c.len-size.result) (ap calls_in c.note.ensures) is;
  usable = still_synced _ _ _ (ap calls_in c.note.ensures) (λ is. cc is) c.requires;
  cause = done_cause _ _ (Measure true c.len-size.result) _ (ap calls_in c.note.ensures) refl;
}

pub returns-in-Err : goal.returns-in-Err
returns-in-Err g c = record {
  size = tt;
  untouched = λ is. untouched g.O.Origin.first g.O.Origin.left (λ f. calls_in f.calls.made) _ _ (Measure false 0) tt (ap calls_in c.note-in-Err.ensures);
  was_true = λ is. before_it g.O.Origin.first g.O.Origin.left _ _ (Measure false 0) (ap calls_in c.note-in-Err.ensures) is;
  usable = still_synced _ _ _ (ap calls_in c.note-in-Err.ensures) (λ is. cc is) c.requires;
  cause = failed_cause _ _ (Measure false 0) _ (ap calls_in c.note-in-Err.ensures) refl;
}

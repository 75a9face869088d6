use Rattle.std.proofs.Common.{true, false, refl, ap}
use Rattle.mds_file.specs.Calls.{Sync, contents, calls_in}
use Rattle.mds_file.proofs.CallLemmas.{elapses, sync_leaves, sync_follows, lost_follows, before_it, still_synced, done_cause, failed_cause}
use Rattle.mds_file.proofs.disk_file.DiskFileDevice.sync.Goals as goal

pub returns-in-Ok : goal.returns-in-Ok
returns-in-Ok g c = record {
  durable = λ is. sync_leaves g.O.Origin.first g.O.Origin.left _ _ (ap calls_in c.note.ensures);
  seen = λ is. ap (contents g.O.Origin.first g.O.Origin.left) (ap calls_in c.note.ensures);
  crash = λ is. sync_follows g.O.Origin.first g.O.Origin.left _ _ (ap calls_in c.note.ensures);
  time = λ is. elapses g.O.Origin.first g.O.Origin.left _ _ (Sync true) tt (ap calls_in c.note.ensures);
  was_true = λ is. before_it g.O.Origin.first g.O.Origin.left _ _ (Sync true) (ap calls_in c.note.ensures) is;
  usable = still_synced _ _ _ (ap calls_in c.note.ensures) (λ is. cc is) c.requires;
  cause = done_cause _ _ (Sync true) _ (ap calls_in c.note.ensures) refl;
}

pub returns-in-Err : goal.returns-in-Err
returns-in-Err g c = record {
  durable = tt;
  seen = tt;
  crash = λ is. lost_follows g.O.Origin.first g.O.Origin.left _ _ (ap calls_in c.note-in-Err.ensures);
  time = λ is. elapses g.O.Origin.first g.O.Origin.left _ _ (Sync false) tt (ap calls_in c.note-in-Err.ensures);
  was_true = λ is. before_it g.O.Origin.first g.O.Origin.left _ _ (Sync false) (ap calls_in c.note-in-Err.ensures) is;
  usable = tt;
  cause = failed_cause _ _ (Sync false) _ (ap calls_in c.note-in-Err.ensures) refl;
}

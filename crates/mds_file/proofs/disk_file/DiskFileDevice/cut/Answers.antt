use Rattle.std.proofs.Common.{true, false, refl, ap}
use Rattle.mds_file.specs.Calls.{Cut, contents, calls_in}
use Rattle.mds_file.proofs.CallLemmas.{elapses, cut_follows, part_follows, before_it, answer_is, still_synced, done_cause, failed_cause}
use Rattle.mds_file.proofs.disk_file.DiskFileDevice.cut.Goals as goal

pub returns-in-Ok : goal.returns-in-Ok
returns-in-Ok g c = record {
  cut = λ is. ap (contents g.O.Origin.first g.O.Origin.left) (ap calls_in c.note.ensures);
  crash = λ is. cut_follows g.O.Origin.first g.O.Origin.left _ _ c.args.size (ap calls_in c.note.ensures);
  time = λ is. elapses g.O.Origin.first g.O.Origin.left _ _ (Cut true c.args.size) tt (ap calls_in c.note.ensures);
  was_true = λ is. before_it g.O.Origin.first g.O.Origin.left _ _ (Cut true c.args.size) (ap calls_in c.note.ensures) is;
  usable = still_synced _ _ _ (ap calls_in c.note.ensures) (λ is. cc is) c.requires.usable;
  cause = done_cause _ _ (Cut true c.args.size) _ (ap calls_in c.note.ensures) refl;
}

pub returns-in-Err : goal.returns-in-Err
returns-in-Err g c = record {
  cut = tt;
  crash = λ is. part_follows g.O.Origin.first g.O.Origin.left _ _ c.args.size (answer_is g.O.Origin.first g.O.Origin.left _ _ (Cut false c.args.size) (ap calls_in c.note-in-Err.ensures) is) (ap calls_in c.note-in-Err.ensures);
  time = λ is. elapses g.O.Origin.first g.O.Origin.left _ _ (Cut false c.args.size) tt (ap calls_in c.note-in-Err.ensures);
  was_true = λ is. before_it g.O.Origin.first g.O.Origin.left _ _ (Cut false c.args.size) (ap calls_in c.note-in-Err.ensures) is;
  usable = still_synced _ _ _ (ap calls_in c.note-in-Err.ensures) (λ is. cc is) c.requires.usable;
  cause = failed_cause _ _ (Cut false c.args.size) _ (ap calls_in c.note-in-Err.ensures) refl;
}

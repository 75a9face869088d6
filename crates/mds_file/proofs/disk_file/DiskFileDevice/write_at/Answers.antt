use Rattle.std.proofs.Common.{true, false, refl, ap}
use Rattle.mds_file.specs.Calls.{Write, contents, calls_in}
use Rattle.mds_file.proofs.CallLemmas.{elapses, write_follows, torn_follows, torn_is, before_it, answer_is, still_synced, done_cause, failed_cause}
use Rattle.mds_file.proofs.disk_file.DiskFileDevice.write_at.Goals as goal

pub returns-in-Ok : goal.returns-in-Ok
returns-in-Ok g c = record {
  written = λ is. ap (contents g.O.Origin.first g.O.Origin.left) (ap calls_in c.note.ensures);
  torn = tt;
  crash = λ is. write_follows g.O.Origin.first g.O.Origin.left _ _ c.args.at c.args.bytes.now (c.requires.within (before_it g.O.Origin.first g.O.Origin.left _ _ _ (ap calls_in c.note.ensures) is)) (ap calls_in c.note.ensures);
  time = λ is. elapses g.O.Origin.first g.O.Origin.left _ _ (Write true c.args.at c.args.bytes.now) tt (ap calls_in c.note.ensures);
  was_true = λ is. before_it g.O.Origin.first g.O.Origin.left _ _ (Write true c.args.at c.args.bytes.now) (ap calls_in c.note.ensures) is;
  usable = still_synced _ _ _ (ap calls_in c.note.ensures) (λ is. cc is) c.requires.usable;
  cause = done_cause _ _ (Write true c.args.at c.args.bytes.now) _ (ap calls_in c.note.ensures) refl;
}

pub returns-in-Err : goal.returns-in-Err
returns-in-Err g c = record {
  written = tt;
  torn = λ is. torn_is g.O.Origin.first g.O.Origin.left _ _ c.args.at c.args.bytes.now (answer_is g.O.Origin.first g.O.Origin.left _ _ _ (ap calls_in c.note-in-Err.ensures) is) (ap calls_in c.note-in-Err.ensures);
  crash = λ is. torn_follows g.O.Origin.first g.O.Origin.left _ _ c.args.at c.args.bytes.now (answer_is g.O.Origin.first g.O.Origin.left _ _ (Write false c.args.at c.args.bytes.now) (ap calls_in c.note-in-Err.ensures) is) (ap calls_in c.note-in-Err.ensures);
  time = λ is. elapses g.O.Origin.first g.O.Origin.left _ _ (Write false c.args.at c.args.bytes.now) tt (ap calls_in c.note-in-Err.ensures);
  was_true = λ is. before_it g.O.Origin.first g.O.Origin.left _ _ (Write false c.args.at c.args.bytes.now) (ap calls_in c.note-in-Err.ensures) is;
  usable = still_synced _ _ _ (ap calls_in c.note-in-Err.ensures) (λ is. cc is) c.requires.usable;
  cause = failed_cause _ _ (Write false c.args.at c.args.bytes.now) _ (ap calls_in c.note-in-Err.ensures) refl;
}

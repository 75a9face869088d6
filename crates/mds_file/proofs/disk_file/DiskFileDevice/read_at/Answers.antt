use Rattle.std.proofs.Common.{true, false, [], length, take, refl, arith, ap}
use Rattle.mds_file.specs.Calls.{Read, calls_in}
use Rattle.mds_file.proofs.CallLemmas.{untouched, reads_at, before_it, answer_is, still_synced, done_cause, failed_cause}
use Rattle.mds_file.proofs.disk_file.DiskFileDevice.read_at.Goals as goal

pub returns-in-Ok : goal.returns-in-Ok
returns-in-Ok g c = let call = Read true c.args.at (length c.args.buffer.now) (take c.in-Ok.count c.read_some.new.buffer) in record {
  within = c.in-Ok.ensures;
  read = λ is. reads_at _ c.args.at _ c.in-Ok.count _ _ _ refl (omega (arith, c.in-Ok.ensures)) refl (answer_is g.O.Origin.first g.O.Origin.left _ _ call (ap calls_in c.note.ensures) is);
  untouched = λ is. untouched g.O.Origin.first g.O.Origin.left (λ f. calls_in f.calls.made) _ _ call tt (ap calls_in c.note.ensures);
  was_true = λ is. before_it g.O.Origin.first g.O.Origin.left _ _ call (ap calls_in c.note.ensures) is;
  usable = still_synced _ _ _ (ap calls_in c.note.ensures) (λ is. cc is) c.requires;
  cause = done_cause _ _ call _ (ap calls_in c.note.ensures) refl;
}

pub returns-in-Err : goal.returns-in-Err
returns-in-Err g c = record {
  within = tt;
  read = tt;
  untouched = λ is. untouched g.O.Origin.first g.O.Origin.left (λ f. calls_in f.calls.made) _ _ (Read false c.args.at (length c.args.buffer.now) []) tt (ap calls_in c.note-in-Err.ensures);
  was_true = λ is. before_it g.O.Origin.first g.O.Origin.left _ _ (Read false c.args.at (length c.args.buffer.now) []) (ap calls_in c.note-in-Err.ensures) is;
  usable = still_synced _ _ _ (ap calls_in c.note-in-Err.ensures) (λ is. cc is) c.requires;
  cause = failed_cause _ _ (Read false c.args.at (length c.args.buffer.now) []) _ (ap calls_in c.note-in-Err.ensures) refl;
}

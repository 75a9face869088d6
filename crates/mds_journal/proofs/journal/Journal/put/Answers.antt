use Rattle.std.proofs.Common.{◌+◌, ◌-◌, ◌++◌, length, take, drop, refl, ap, arith}
use Rattle.mds_journal.specs.Lines.{recovered_texts}
use Rattle.mds_journal.proofs.AppendLemmas.{are_behind, first_leaves, not_written, group_added, both_leave, ready_stands}
use Rattle.mds_journal.proofs.journal.Journal.put.Goals as goal

pub returns-in-NotWritten-clause-sound : goal.returns-in-NotWritten-clause-sound
returns-in-NotWritten-clause-sound g c =
    let old = c.args.self.now in
    let group = c.args.group.now in
    let all = c.bytes-bytes.result.now in
    let behind = are_behind group all c.bytes-bytes.ensures.texts c.bytes-bytes.ensures.at_rest c.bytes-bytes.ensures.short c.requires.some in
    record {
      short = c.requires.sound.short;
      usable = λ go. c.in-NotWritten.ensures.usable;
      ready = λ go is. (not_written g.D.Device.seen g.D.Device.may_leave old (c.requires.sound.ready c.requires.ready (c.write_and_sync.ensures.was_true is)) group (length (take (length all - 1) (drop 1 all))) behind.few (record { device = c.write_and_sync.new.device; end = old.end; room = old.room; is_lost = old.is_lost }) refl (c.in-NotWritten.ensures.torn is) (c.in-NotWritten.ensures.crash is)).0;
    }

pub returns-in-NotWritten-clause-not_written : goal.returns-in-NotWritten-clause-not_written
returns-in-NotWritten-clause-not_written g c = λ unit.
    let old = c.args.self.now in
    let group = c.args.group.now in
    let all = c.bytes-bytes.result.now in
    let behind = are_behind group all c.bytes-bytes.ensures.texts c.bytes-bytes.ensures.at_rest c.bytes-bytes.ensures.short c.requires.some in (
      c.requires.ready,
      λ is. ready_stands g.D.Device.seen g.D.Device.may_leave (recovered_texts (g.D.Device.seen old.device)) (record { device = c.write_and_sync.new.device; end = old.end; room = old.room; is_lost = old.is_lost })
          (not_written g.D.Device.seen g.D.Device.may_leave old (c.requires.sound.ready c.requires.ready (c.write_and_sync.ensures.was_true is)) group (length (take (length all - 1) (drop 1 all))) behind.few (record { device = c.write_and_sync.new.device; end = old.end; room = old.room; is_lost = old.is_lost }) refl (c.in-NotWritten.ensures.torn is) (c.in-NotWritten.ensures.crash is)),
    )

pub returns-in-NotWritten-clause-any_moment : goal.returns-in-NotWritten-clause-any_moment
returns-in-NotWritten-clause-any_moment g c = λ is.
    let old = c.args.self.now in
    let group = c.args.group.now in
    let all = c.bytes-bytes.result.now in
    let behind = are_behind group all c.bytes-bytes.ensures.texts c.bytes-bytes.ensures.at_rest c.bytes-bytes.ensures.short c.requires.some in
    first_leaves g.D.Device.seen g.D.Device.may_leave old (c.requires.sound.ready c.requires.ready (c.write_and_sync.ensures.was_true is)) group (length (take (length all - 1) (drop 1 all))) behind.few g.D.Device.moment g.D.Device.left_since c.write_and_sync.new.device (c.in-NotWritten.ensures.any_moment is)

pub returns-in-NotSynced-clause-any_moment : goal.returns-in-NotSynced-clause-any_moment
returns-in-NotSynced-clause-any_moment g c = λ is.
    let old = c.args.self.now in
    let group = c.args.group.now in
    let all = c.bytes-bytes.result.now in
    let behind = are_behind group all c.bytes-bytes.ensures.texts c.bytes-bytes.ensures.at_rest c.bytes-bytes.ensures.short c.requires.some in
    first_leaves g.D.Device.seen g.D.Device.may_leave old (c.requires.sound.ready c.requires.ready (c.write_and_sync.ensures.was_true is)) group (length (take (length all - 1) (drop 1 all))) behind.few g.D.Device.moment g.D.Device.left_since c.write_and_sync.new.device (c.in-NotSynced.ensures.any_moment is)

pub returns-in-Done-write_and_sync-clause-any_moment : goal.returns-in-Done-write_and_sync-clause-any_moment
returns-in-Done-write_and_sync-clause-any_moment g c = λ is.
    let old = c.args.self.now in
    let group = c.args.group.now in
    let all = c.bytes-bytes.result.now in
    let behind = are_behind group all c.bytes-bytes.ensures.texts c.bytes-bytes.ensures.at_rest c.bytes-bytes.ensures.short c.requires.some in
    let was = c.write_and_sync-2.ensures.was_true is in
    both_leave g.D.Device.seen g.D.Device.may_leave old (c.requires.sound.ready c.requires.ready (c.write_and_sync.ensures.was_true was)) group (take (length all - 1) (drop 1 all)) behind.few behind.none behind.whole c.write_and_sync.new.device (c.in-Done.ensures.written was) (c.in-Done.ensures.durable was)
    g.D.Device.moment g.D.Device.left_since c.write_and_sync-2.new.device (c.in-Done.ensures.any_moment was) (c.in-Done-write_and_sync.ensures.any_moment is)

pub returns-in-NotWritten-write_and_sync-clause-any_moment : goal.returns-in-NotWritten-write_and_sync-clause-any_moment
returns-in-NotWritten-write_and_sync-clause-any_moment g c = λ is.
    let old = c.args.self.now in
    let group = c.args.group.now in
    let all = c.bytes-bytes.result.now in
    let behind = are_behind group all c.bytes-bytes.ensures.texts c.bytes-bytes.ensures.at_rest c.bytes-bytes.ensures.short c.requires.some in
    let was = c.write_and_sync-2.ensures.was_true is in
    both_leave g.D.Device.seen g.D.Device.may_leave old (c.requires.sound.ready c.requires.ready (c.write_and_sync.ensures.was_true was)) group (take (length all - 1) (drop 1 all)) behind.few behind.none behind.whole c.write_and_sync.new.device (c.in-Done.ensures.written was) (c.in-Done.ensures.durable was)
    g.D.Device.moment g.D.Device.left_since c.write_and_sync-2.new.device (c.in-Done.ensures.any_moment was) (c.in-NotWritten-write_and_sync.ensures.any_moment is)

pub returns-in-NotSynced-write_and_sync-clause-any_moment : goal.returns-in-NotSynced-write_and_sync-clause-any_moment
returns-in-NotSynced-write_and_sync-clause-any_moment g c = λ is.
    let old = c.args.self.now in
    let group = c.args.group.now in
    let all = c.bytes-bytes.result.now in
    let behind = are_behind group all c.bytes-bytes.ensures.texts c.bytes-bytes.ensures.at_rest c.bytes-bytes.ensures.short c.requires.some in
    let was = c.write_and_sync-2.ensures.was_true is in
    both_leave g.D.Device.seen g.D.Device.may_leave old (c.requires.sound.ready c.requires.ready (c.write_and_sync.ensures.was_true was)) group (take (length all - 1) (drop 1 all)) behind.few behind.none behind.whole c.write_and_sync.new.device (c.in-Done.ensures.written was) (c.in-Done.ensures.durable was)
    g.D.Device.moment g.D.Device.left_since c.write_and_sync-2.new.device (c.in-Done.ensures.any_moment was) (c.in-NotSynced-write_and_sync.ensures.any_moment is)

pub returns-in-Done-write_and_sync-clause-sound : goal.returns-in-Done-write_and_sync-clause-sound
returns-in-Done-write_and_sync-clause-sound g c =
    let old = c.args.self.now in
    let group = c.args.group.now in
    let all = c.bytes-bytes.result.now in
    let behind = are_behind group all c.bytes-bytes.ensures.texts c.bytes-bytes.ensures.at_rest c.bytes-bytes.ensures.short c.requires.some in
    record {
      short = omega (arith, c.requires.fits, ap length c.bytes-bytes.ensures.at_rest);
      usable = λ go. c.in-Done-write_and_sync.ensures.usable;
      ready = λ go is. (group_added g.D.Device.seen g.D.Device.may_leave old (c.requires.sound.ready c.requires.ready (c.write_and_sync.ensures.was_true (c.write_and_sync-2.ensures.was_true is))) group (take (length all - 1) (drop 1 all)) behind.few behind.none behind.whole
          c.write_and_sync.new.device (c.in-Done.ensures.written (c.write_and_sync-2.ensures.was_true is)) (c.in-Done.ensures.durable (c.write_and_sync-2.ensures.was_true is))
          (record { device = c.write_and_sync-2.new.device; end = old.end + (length all - 1); room = old.room; is_lost = old.is_lost }) (omega (arith, behind.size)) (c.in-Done-write_and_sync.ensures.written is) (c.in-Done-write_and_sync.ensures.durable is)).0;
    }

pub returns-in-Done-write_and_sync-clause-acknowledged : goal.returns-in-Done-write_and_sync-clause-acknowledged
returns-in-Done-write_and_sync-clause-acknowledged g c =
    let old = c.args.self.now in
    let group = c.args.group.now in
    let all = c.bytes-bytes.result.now in
    let behind = are_behind group all c.bytes-bytes.ensures.texts c.bytes-bytes.ensures.at_rest c.bytes-bytes.ensures.short c.requires.some in (
      c.requires.ready,
      λ is. ready_stands g.D.Device.seen g.D.Device.may_leave (recovered_texts (g.D.Device.seen old.device) ++ group) (record { device = c.write_and_sync-2.new.device; end = old.end + (length all - 1); room = old.room; is_lost = old.is_lost })
          (group_added g.D.Device.seen g.D.Device.may_leave old (c.requires.sound.ready c.requires.ready (c.write_and_sync.ensures.was_true (c.write_and_sync-2.ensures.was_true is))) group (take (length all - 1) (drop 1 all)) behind.few behind.none behind.whole
          c.write_and_sync.new.device (c.in-Done.ensures.written (c.write_and_sync-2.ensures.was_true is)) (c.in-Done.ensures.durable (c.write_and_sync-2.ensures.was_true is))
          (record { device = c.write_and_sync-2.new.device; end = old.end + (length all - 1); room = old.room; is_lost = old.is_lost }) (omega (arith, behind.size)) (c.in-Done-write_and_sync.ensures.written is) (c.in-Done-write_and_sync.ensures.durable is)),
    )

use Rattle.mds_journal.proofs.RepairLemmas.{cut_leaves, sync_leaves, write_leaves, gate_closed}
use Rattle.mds_journal.proofs.repair.close_end.Goals as goal

pub returns-in-Err-clause-any_moment : goal.returns-in-Err-clause-any_moment
returns-in-Err-clause-any_moment g c = λ is.
    cut_leaves g.D.Device.seen g.D.Device.may_leave g.D.Device.moment g.D.Device.left_since c.args.end c.args.device.now (c.requires.read (c.cut.ensures.was_true is)) c.cut.new.self (g.met.D.Device.only_now c.args.device.now) (c.cut.ensures.time is) (c.cut.ensures.crash is)

pub returns-in-Err-sync-clause-any_moment : goal.returns-in-Err-sync-clause-any_moment
returns-in-Err-sync-clause-any_moment g c = λ is.
    let was = c.sync.ensures.was_true is in
    let cut = cut_leaves g.D.Device.seen g.D.Device.may_leave g.D.Device.moment g.D.Device.left_since c.args.end c.args.device.now (c.requires.read (c.cut.ensures.was_true was)) c.cut.new.self (g.met.D.Device.only_now c.args.device.now) (c.cut.ensures.time was) (c.cut.ensures.crash was) in
    sync_leaves g.D.Device.seen g.D.Device.may_leave g.D.Device.moment g.D.Device.left_since c.args.end c.args.device.now (c.requires.read (c.cut.ensures.was_true was)) c.cut.new.self c.sync.new.self cut (c.cut.ensures.crash was) (c.sync.ensures.time is) (c.sync.ensures.crash is)

pub returns-in-Done-clause-at_rest : goal.returns-in-Done-clause-at_rest
returns-in-Done-clause-at_rest g c = λ is.
    let then = c.write_and_sync.ensures.was_true is in
    let was = c.sync.ensures.was_true then in
    gate_closed g.D.Device.seen g.D.Device.may_leave g.D.Device.moment g.D.Device.left_since c.args.end c.args.device.now (c.requires.read (c.cut.ensures.was_true was)) c.cut.new.self c.sync.new.self c.write_and_sync.new.device
    (c.in_default.ensures.cut was) (c.in_default-sync.ensures.seen then) (c.in-Done.ensures.written is)

pub returns-in-Done-clause-any_moment : goal.returns-in-Done-clause-any_moment
returns-in-Done-clause-any_moment g c = λ is.
    let then = c.write_and_sync.ensures.was_true is in
    let was = c.sync.ensures.was_true then in
    let cut = cut_leaves g.D.Device.seen g.D.Device.may_leave g.D.Device.moment g.D.Device.left_since c.args.end c.args.device.now (c.requires.read (c.cut.ensures.was_true was)) c.cut.new.self (g.met.D.Device.only_now c.args.device.now) (c.cut.ensures.time was) (c.cut.ensures.crash was) in
    let synced = sync_leaves g.D.Device.seen g.D.Device.may_leave g.D.Device.moment g.D.Device.left_since c.args.end c.args.device.now (c.requires.read (c.cut.ensures.was_true was)) c.cut.new.self c.sync.new.self cut (c.cut.ensures.crash was) (c.sync.ensures.time then) (c.sync.ensures.crash then) in
    write_leaves g.D.Device.seen g.D.Device.may_leave g.D.Device.moment g.D.Device.left_since c.args.end c.args.device.now (c.requires.read (c.cut.ensures.was_true was)) c.cut.new.self c.sync.new.self c.write_and_sync.new.device
    synced (c.in_default.ensures.cut was) (c.in_default-sync.ensures.durable then) (c.in-Done.ensures.any_moment is)

pub returns-in-NotWritten-clause-any_moment : goal.returns-in-NotWritten-clause-any_moment
returns-in-NotWritten-clause-any_moment g c = λ is.
    let then = c.write_and_sync.ensures.was_true is in
    let was = c.sync.ensures.was_true then in
    let cut = cut_leaves g.D.Device.seen g.D.Device.may_leave g.D.Device.moment g.D.Device.left_since c.args.end c.args.device.now (c.requires.read (c.cut.ensures.was_true was)) c.cut.new.self (g.met.D.Device.only_now c.args.device.now) (c.cut.ensures.time was) (c.cut.ensures.crash was) in
    let synced = sync_leaves g.D.Device.seen g.D.Device.may_leave g.D.Device.moment g.D.Device.left_since c.args.end c.args.device.now (c.requires.read (c.cut.ensures.was_true was)) c.cut.new.self c.sync.new.self cut (c.cut.ensures.crash was) (c.sync.ensures.time then) (c.sync.ensures.crash then) in
    write_leaves g.D.Device.seen g.D.Device.may_leave g.D.Device.moment g.D.Device.left_since c.args.end c.args.device.now (c.requires.read (c.cut.ensures.was_true was)) c.cut.new.self c.sync.new.self c.write_and_sync.new.device
    synced (c.in_default.ensures.cut was) (c.in_default-sync.ensures.durable then) (c.in-NotWritten.ensures.any_moment is)

pub returns-in-NotSynced-clause-any_moment : goal.returns-in-NotSynced-clause-any_moment
returns-in-NotSynced-clause-any_moment g c = λ is.
    let then = c.write_and_sync.ensures.was_true is in
    let was = c.sync.ensures.was_true then in
    let cut = cut_leaves g.D.Device.seen g.D.Device.may_leave g.D.Device.moment g.D.Device.left_since c.args.end c.args.device.now (c.requires.read (c.cut.ensures.was_true was)) c.cut.new.self (g.met.D.Device.only_now c.args.device.now) (c.cut.ensures.time was) (c.cut.ensures.crash was) in
    let synced = sync_leaves g.D.Device.seen g.D.Device.may_leave g.D.Device.moment g.D.Device.left_since c.args.end c.args.device.now (c.requires.read (c.cut.ensures.was_true was)) c.cut.new.self c.sync.new.self cut (c.cut.ensures.crash was) (c.sync.ensures.time then) (c.sync.ensures.crash then) in
    write_leaves g.D.Device.seen g.D.Device.may_leave g.D.Device.moment g.D.Device.left_since c.args.end c.args.device.now (c.requires.read (c.cut.ensures.was_true was)) c.cut.new.self c.sync.new.self c.write_and_sync.new.device
    synced (c.in_default.ensures.cut was) (c.in_default-sync.ensures.durable then) (c.in-NotSynced.ensures.any_moment is)

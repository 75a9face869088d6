use Rattle.std.proofs.Common.{length}
use Rattle.mds_journal.proofs.StepLemmas.{written_step, synced_step}
use Rattle.mds_journal.proofs.step.write_and_sync.Goals as goal

pub returns-in-Err-clause-any_moment : goal.returns-in-Err-clause-any_moment
returns-in-Err-clause-any_moment g c = λ is.
    written_step g.D.Device.moment g.D.Device.left_since g.D.Device.may_leave c.args.at (length c.args.bytes.now) c.args.device.now c.write_at.new.self
    (g.met.D.Device.only_now c.args.device.now) (c.write_at.ensures.time is) (c.write_at.ensures.crash is)

pub returns-in-Err-sync-clause-any_moment : goal.returns-in-Err-sync-clause-any_moment
returns-in-Err-sync-clause-any_moment g c = λ is.
    let was = c.sync.ensures.was_true is in
    let written = written_step g.D.Device.moment g.D.Device.left_since g.D.Device.may_leave c.args.at (length c.args.bytes.now) c.args.device.now c.write_at.new.self
    (g.met.D.Device.only_now c.args.device.now) (c.write_at.ensures.time was) (c.write_at.ensures.crash was) in
    synced_step g.D.Device.moment g.D.Device.left_since g.D.Device.may_leave c.args.at (length c.args.bytes.now) c.args.device.now c.write_at.new.self c.sync.new.self
    written (c.write_at.ensures.crash was) (c.sync.ensures.time is) (c.sync.ensures.crash is)

pub returns-clause-any_moment : goal.returns-clause-any_moment
returns-clause-any_moment g c = λ is.
    let was = c.sync.ensures.was_true is in
    let written = written_step g.D.Device.moment g.D.Device.left_since g.D.Device.may_leave c.args.at (length c.args.bytes.now) c.args.device.now c.write_at.new.self
    (g.met.D.Device.only_now c.args.device.now) (c.write_at.ensures.time was) (c.write_at.ensures.crash was) in
    synced_step g.D.Device.moment g.D.Device.left_since g.D.Device.may_leave c.args.at (length c.args.bytes.now) c.args.device.now c.write_at.new.self c.sync.new.self
    written (c.write_at.ensures.crash was) (c.sync.ensures.time is) (c.sync.ensures.crash is)

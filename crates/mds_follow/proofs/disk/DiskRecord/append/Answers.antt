use Rattle.std.proofs.Common.{refl}
use Rattle.mds_follow.proofs.Disks.{stands_more, was_usable, disk_passes, failed_passes}
use Rattle.mds_follow.proofs.disk.DiskRecord.append.Goals as goal

pub returns-in-Ok-clause-appended : goal.returns-in-Ok-clause-appended
returns-in-Ok-clause-appended g c truth told stands =
    stands_more g.D.Device.seen g.D.Device.may_leave c.args.self.now _ c.lay_out_group.new.group told c.args.group.now refl stands c.in_ok-lay_out_group.ensures.told
    (c.in-Ok.ensures.acknowledged.1 truth)

pub returns-in-Ok-clause-any_moment : goal.returns-in-Ok-clause-any_moment
returns-in-Ok-clause-any_moment g c truth told stands =
    let go = was_usable c.args.self.now.journal _ tt c.in-Ok.ensures.lost.1 in
    disk_passes g.D.Device.seen g.D.Device.may_leave g.D.Device.moment g.D.Device.left_since c.args.self.now _ c.lay_out_group.new.group told c.args.group.now go
    (c.in-Ok.ensures.any_moment go truth) (stands go) c.in_ok-lay_out_group.ensures.told

pub returns-in-Err-clause-any_moment : goal.returns-in-Err-clause-any_moment
returns-in-Err-clause-any_moment g c truth told stands =
    failed_passes g.D.Device.seen g.D.Device.may_leave g.D.Device.moment g.D.Device.left_since c.args.self.now _ c.lay_out_group.new.group told c.args.group.now _ c.in-Err.ensures.refused
    c.in-Err.ensures.lost.1 (λ go. c.in-Err.ensures.any_moment go truth) stands c.in_ok-lay_out_group.ensures.told

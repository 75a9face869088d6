use Rattle.std.proofs.Common.{◌+◌, ◌<◌, length, refl, arith}
use Rattle.mds_journal.specs.declared.group.TheConstants.{MAX_GROUP_BYTES}
use Rattle.mds_journal.proofs.StepLemmas.{written_step}
use Rattle.mds_journal.proofs.AppendLemmas.{room_made, room_leaves}
use Rattle.mds_journal.proofs.journal.Journal.make_room.Goals as goal

pub returns-clause-sound : goal.returns-clause-sound
returns-clause-sound g c =
    let old = c.args.self.now in
    let room = c.line_feeds.result.now in
    let few : length room < MAX_GROUP_BYTES = omega (arith, c.line_feeds.ensures) in
    record {
      short = c.requires.sound.short;
      usable = λ go. c.write_at.ensures.usable;
      ready = λ go is. (room_made g.D.Device.seen g.D.Device.may_leave old (c.requires.sound.ready c.requires.ready (c.write_at.ensures.was_true is)) room few (g.D.Device.is_true c.write_at.new.self) c.write_at.result
          (record { device = c.write_at.new.self; end = old.end; room = old.end + 1 + 1048576; is_lost = old.is_lost }) is refl c.write_at.ensures.written c.write_at.ensures.torn (c.write_at.ensures.crash is)).0;
    }

pub returns-clause-same : goal.returns-clause-same
returns-clause-same g c = λ is.
    let old = c.args.self.now in
    let room = c.line_feeds.result.now in
    let few : length room < MAX_GROUP_BYTES = omega (arith, c.line_feeds.ensures) in
    (room_made g.D.Device.seen g.D.Device.may_leave old (c.requires.sound.ready c.requires.ready (c.write_at.ensures.was_true is)) room few (g.D.Device.is_true c.write_at.new.self) c.write_at.result
    (record { device = c.write_at.new.self; end = old.end; room = old.end + 1 + 1048576; is_lost = old.is_lost }) is refl c.write_at.ensures.written c.write_at.ensures.torn (c.write_at.ensures.crash is)).1

pub returns-clause-any_moment : goal.returns-clause-any_moment
returns-clause-any_moment g c = λ is.
    let old = c.args.self.now in
    let room = c.line_feeds.result.now in
    let few : length room < MAX_GROUP_BYTES = omega (arith, c.line_feeds.ensures) in
    room_leaves g.D.Device.seen g.D.Device.may_leave old (c.requires.sound.ready c.requires.ready (c.write_at.ensures.was_true is)) room few g.D.Device.moment g.D.Device.left_since c.write_at.new.self
    (written_step g.D.Device.moment g.D.Device.left_since g.D.Device.may_leave (old.end + 1) (length room) old.device c.write_at.new.self
    (g.met.D.Device.only_now old.device) (c.write_at.ensures.time is) (c.write_at.ensures.crash is))

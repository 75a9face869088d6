use Rattle.mds_log.specs.Log.{requests}
use Rattle.mds_log.proofs.Lists.{prefix_trans}
use Rattle.mds_book.specs.Shards.{part}
use Rattle.mds_follow.proofs.Parts.{recorded_begins}
use Rattle.mds_follow.proofs.follower.Follower.finish.Goals as goal

pub returns-clause-first : goal.returns-clause-first
returns-clause-first g c =
    rw (← c.self.view_is)
    (prefix_trans (part 0 (requests c.self.inside.desk.keeper)) c.self.inside.first.seen c.args.settled.now.first
    (recorded_begins 0 (requests c.self.inside.desk.keeper) c.self.inside.first c.self.invariant.1) c.tell_begins.ensures.first)

pub returns-clause-second : goal.returns-clause-second
returns-clause-second g c =
    rw (← c.self.view_is)
    (prefix_trans (part 1 (requests c.self.inside.desk.keeper)) c.self.inside.second.seen c.args.settled.now.second
    (recorded_begins 1 (requests c.self.inside.desk.keeper) c.self.inside.second c.self.invariant.2) c.tell_begins.ensures.second)

-- what a restart may read of a shard begins what was seen of it, and so its history
pub returns-clause-first_sound : goal.returns-clause-first_sound
returns-clause-first_sound g c truth read left =
    prefix_trans (part 0 read) c.self.inside.first.seen c.args.settled.now.first (c.self.invariant.3 truth read left) c.tell_begins.ensures.first

pub returns-clause-second_sound : goal.returns-clause-second_sound
returns-clause-second_sound g c truth read left =
    prefix_trans (part 1 read) c.self.inside.second.seen c.args.settled.now.second (c.self.invariant.4 truth read left) c.tell_begins.ensures.second

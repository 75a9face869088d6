use Rattle.std.proofs.Common.{refl}
use Rattle.mds_log.specs.Log.{requests}
use Rattle.mds_book.specs.Shards.{part}
use Rattle.mds_follow.proofs.Begins.{safe_read, begins_at, follows_all, sound_all}
use Rattle.mds_follow.proofs.follower.Follower.begin.Goals as goal

pub invariant_of-result : goal.invariant_of-result
invariant_of-result g c =
    let is = c.requires in
    let told = c.args.keeper in
    let left = g.F.Record.left_since c.args.file in (
      record {
        sound = is.sound;
        short = is.short;
        begun = is.begun;
        safe = λ truth. safe_read left g.J.RecordLog.start (g.F.Tagged.tag c.args.file) told (is.begun truth) (is.read truth);
        kept = is.stands;
        old = λ truth. record { old = requests told; is_held = is.held truth; begins = begins_at left g.J.RecordLog.start told (is.read truth) };
      },
      follows_all 0 (requests told) (part 0 (requests told)) _ refl is.first,
      follows_all 1 (requests told) (part 1 (requests told)) _ refl is.second,
      λ truth. sound_all left g.J.RecordLog.start 0 told (part 0 (requests told)) _ (is.read truth) refl is.first,
      λ truth. sound_all left g.J.RecordLog.start 1 told (part 1 (requests told)) _ (is.read truth) refl is.second,
    )

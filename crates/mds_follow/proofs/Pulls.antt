-- How a follower goes on with a group.
use Rattle.std.proofs.Common.{◌≡◌, ◌⊎◌, ◌≤◌, List, ◌++◌, length, sym, subst}
use mathlib.Core.List.{IsPrefix}
use Rattle.mds_table.specs.Tables.{Tables}
use Rattle.mds_core.specs.declared.request.Request.{Request}
use Rattle.mds_log.proofs.Lists.{prefix_trans}
use Rattle.mds_book.specs.Copying.{Progressed}
use Rattle.mds_book.specs.Shards.{part}
use Rattle.mds_follow.specs.Parts.{Follows}
use Rattle.mds_follow.specs.Group.{IsGroup}
use Rattle.mds_follow.specs.Record.{IsBeforeOrAfter}
use Rattle.mds_follow.proofs.Parts.{follows_first, follows_second, follows_still, recorded_begins, sound_more}

module _ (tables : Tables) (first second : Progressed) (group : List Request) (new_first new_second : Progressed) (recorded now_recorded : List Request)
    (is : IsGroup tables (first, second) group (new_first, new_second)) (follows : Follows 0 recorded first) (follows_other : Follows 1 recorded second) where
  -- the group is recorded
  pub followed : now_recorded ≡ recorded ++ group → Follows 0 now_recorded new_first × Follows 1 now_recorded new_second
  followed more =
      let OfFirst : List Request → Type 0 = λ w. Follows 0 w new_first in
      let OfSecond : List Request → Type 0 = λ w. Follows 1 w new_second in (
        subst OfFirst (sym more) (follows_first tables first second group new_first new_second recorded is follows),
        subst OfSecond (sym more) (follows_second tables first second group new_first new_second recorded is follows_other),
      )

  -- it isn't known to be, and more of the histories was seen
  pub followed_still : (still other_still : Progressed) → now_recorded ≡ recorded → first.count ≤ length first.seen → second.count ≤ length second.seen
      → still ≡ record { seen = new_first.seen; count = first.count } → other_still ≡ record { seen = new_second.seen; count = second.count }
      → Follows 0 now_recorded still × Follows 1 now_recorded other_still
  followed_still still other_still same within other_within seen other_seen =
      let first_still : Follows 0 recorded (record { seen = new_first.seen; count = first.count }) = follows_still 0 recorded first new_first.seen is.first_copied.seen within follows in
      let second_still : Follows 1 recorded (record { seen = new_second.seen; count = second.count }) =
      follows_still 1 recorded second new_second.seen is.second_copied.seen other_within follows_other in (
        rw (same, seen) first_still,
        rw (same, other_seen) second_still,
      )

  -- what a restart may have read of each shard begins what was seen of it now
  pub sound_first : (before now : List Request → Type 0) → ((c : List Request) → before c → IsPrefix (part 0 c) first.seen)
      → ((c : List Request) → now c → before c ⊎ IsBeforeOrAfter recorded group c) → (c : List Request) → now c → IsPrefix (part 0 c) new_first.seen
  sound_first before now was may =
      sound_more before now 0 recorded group first.seen new_first.seen is.first_copied.seen
      (prefix_trans (part 0 recorded) first.seen new_first.seen (recorded_begins 0 recorded first follows) is.first_copied.seen)
      (recorded_begins 0 (recorded ++ group) new_first (follows_first tables first second group new_first new_second recorded is follows)) was may

  pub sound_second : (before now : List Request → Type 0) → ((c : List Request) → before c → IsPrefix (part 1 c) second.seen)
      → ((c : List Request) → now c → before c ⊎ IsBeforeOrAfter recorded group c) → (c : List Request) → now c → IsPrefix (part 1 c) new_second.seen
  sound_second before now was may =
      sound_more before now 1 recorded group second.seen new_second.seen is.second_copied.seen
      (prefix_trans (part 1 recorded) second.seen new_second.seen (recorded_begins 1 recorded second follows_other) is.second_copied.seen)
      (recorded_begins 1 (recorded ++ group) new_second (follows_second tables first second group new_first new_second recorded is follows_other)) was may

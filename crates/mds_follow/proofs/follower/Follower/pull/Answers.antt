use Rattle.std.proofs.Common.{List, sym, ap, ◌∙◌, subst}
use Rattle.mds_core.specs.declared.request.Request.{Request}
use Rattle.mds_log.specs.Log.{Acceptance, requests}
use Rattle.mds_book.specs.Copying.{Progressed}
use Rattle.mds_follow.specs.Group.{IsGroup}
use Rattle.mds_follow.specs.Record.{IsSound}
use Rattle.mds_follow.proofs.Pulls.{followed, followed_still, sound_first, sound_second}
use Rattle.mds_follow.proofs.follower.Follower.pull.Goals as goal

-- it is open whether the group is recorded: no more counts as recorded, and the histories with it were seen
pub invariant_of-self-in_err-put : goal.invariant_of-self-in_err-put
invariant_of-self-in_err-put g c =
    let is = c.self.invariant in
    let put = c.in_err-put.ensures in
    let group : IsGroup c.args.book.now.tables (c.self.inside.first, c.self.inside.second) c.as_slice.result.now (c.next_group.new.first, c.next_group.new.second) =
    rw (← c.again-first.ensures, ← c.again-second.ensures, c.as_slice.ensures) c.in-Ok.ensures in
    let same = ap (λ (w : List Acceptance). requests w) put.none in
    let first_is = c.with_count.ensures ∙ ap (λ n. record { seen = c.next_group.new.first.seen; count = n }) c.count.ensures.count in
    let second_is = c.with_count-2.ensures ∙ ap (λ n. record { seen = c.next_group.new.second.seen; count = n }) c.count-2.ensures.count in
    let both = followed_still _ _ _ _ _ _ (requests c.self.inside.desk.keeper) (requests c.put.new.self.keeper) group is.1 is.2 c.with_count.result c.with_count-2.result same
    c.count.ensures.within c.count-2.ensures.within first_is second_is in
    let OfFirst : List Request → Type 0 = λ w. g.F.Record.is_true c.put.new.self.file → IsSound (g.F.Record.left_since c.put.new.self.file) g.J.RecordLog.start 0 w in
    let OfSecond : List Request → Type 0 = λ w. g.F.Record.is_true c.put.new.self.file → IsSound (g.F.Record.left_since c.put.new.self.file) g.J.RecordLog.start 1 w in (
      put.desk,
      both.0,
      both.1,
      subst OfFirst (sym (ap (λ (p : Progressed). p.seen) first_is))
          (λ truth. sound_first _ _ _ _ _ _ (requests c.self.inside.desk.keeper) (requests c.put.new.self.keeper) group is.1 is.2 _ _ (is.3 (put.was_true truth)) (put.any_moment truth)),
      subst OfSecond (sym (ap (λ (p : Progressed). p.seen) second_is))
          (λ truth. sound_second _ _ _ _ _ _ (requests c.self.inside.desk.keeper) (requests c.put.new.self.keeper) group is.1 is.2 _ _ (is.4 (put.was_true truth)) (put.any_moment truth)),
    )

-- the group is recorded
pub invariant_of-self-2 : goal.invariant_of-self-2
invariant_of-self-2 g c =
    let is = c.self.invariant in
    let put = c.in_ok-put.ensures in
    let group : IsGroup c.args.book.now.tables (c.self.inside.first, c.self.inside.second) c.as_slice.result.now (c.next_group.new.first, c.next_group.new.second) =
    rw (← c.again-first.ensures, ← c.again-second.ensures, c.as_slice.ensures) c.in-Ok.ensures in
    let both = followed _ _ _ _ _ _ (requests c.self.inside.desk.keeper) (requests c.put.new.self.keeper) group is.1 is.2 put.recorded in (
      put.desk,
      both.0,
      both.1,
      λ truth. sound_first _ _ _ _ _ _ (requests c.self.inside.desk.keeper) (requests c.put.new.self.keeper) group is.1 is.2 _ _ (is.3 (put.was_true truth)) (put.any_moment truth),
      λ truth. sound_second _ _ _ _ _ _ (requests c.self.inside.desk.keeper) (requests c.put.new.self.keeper) group is.1 is.2 _ _ (is.4 (put.was_true truth)) (put.any_moment truth),
    )

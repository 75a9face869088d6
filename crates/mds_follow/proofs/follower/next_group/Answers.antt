use Rattle.std.proofs.Common.{◌++◌, List, ap, ◌∙◌}
use Rattle.mds_core.specs.declared.request.Request.{Request}
use Rattle.mds_follow.proofs.follower.next_group.Goals as goal

-- the one piece comes behind nothing, and the other behind it
pub returns : goal.returns
returns g c =
    let first = c.in_ok-copy_first.ensures.copied in
    let second = c.in_ok-copy_second.ensures.copied in
    let ones = ap (λ (w : List Request). w ++ first.piece) c.clear.ensures in
    record {
      ones = first.piece;
      others = second.piece;
      both = second.behind ∙ ap (λ (w : List Request). w ++ second.piece) (first.behind ∙ ones);
      first_copied = first.is_copied;
      second_copied = second.is_copied;
    }

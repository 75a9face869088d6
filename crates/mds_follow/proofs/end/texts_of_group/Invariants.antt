use Rattle.std.proofs.Common.{◌≡◌, take, All}
use Rattle.mds_check.specs.Form.{IsText, behind_texts}
use Rattle.mds_follow.specs.Pieces.{texts_in}
use Rattle.mds_follow.proofs.end.texts_of_group.Given as goal

-- the lines so far are texts, and the check is how far they come
abbrev pub invariant-loop-place : goal.invariant-loop-place
invariant-loop-place l = record {
  check : l.check ≡ behind_texts (texts_in (take l.place l.lines));
  are : All IsText (texts_in (take l.place l.lines));
}

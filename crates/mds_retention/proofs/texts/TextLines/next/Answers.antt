use Rattle.std.proofs.Common.{◌≡◌, true, rules}
use Rattle.std.proofs.lemmas.Result.{IfOk-weaker}
use Rattle.mds_retention.proofs.texts.TextLines.next.Goals as goal

pub returns-then-branch-clause-next : goal.returns-then-branch-clause-next
returns-then-branch-clause-next g c =
    let more : c.in_ok-next_group.field-0 ≡ true = search rules in
    let reads = c.in_ok-next_group.ensures.read more in
    IfOk-weaker c.hand_out-then-branch.result _ _ (λ _ hands _ known texts read. hands known texts (reads known texts read)) c.hand_out-then-branch.ensures.next

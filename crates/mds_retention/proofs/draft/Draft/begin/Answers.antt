use Rattle.std.proofs.Common.{◌≡◌, ◌∙◌, ◌∷◌, ◌++◌, [], ap, rules}
use Rattle.mds_groups.specs.Form.{first_line}
use Rattle.mds_groups.specs.declared.form.JournalForm.TheVariants.{Checked}
use Rattle.mds_retention.proofs.Drafts.{begun}
use Rattle.mds_retention.proofs.draft.Draft.begin.Goals as goal

pub returns-clause-draft : goal.returns-clause-draft
returns-clause-draft g c =
    let first = c.as_bytes.result.now in
    let is : first ≡ first_line Checked = search rules in
    let group : c.push_line.new.group ≡ [] ++ first ∷ [] = c.in_ok-push_line.ensures.pushed ∙ ap (λ all. all ++ first ∷ []) (c.clear.ensures.group ∙ c.requires.group) in
    begun g.D.Device.seen g.D.Device.may_leave g.D.Device.is_true c.clear.new.self c.end_group.new.self c.end_group.ensures.file c.end_group.ensures.size first c.push_line.new.group is
    c.in_ok-push_line.ensures.plain group c.in_ok-end_group.ensures.page c.in_ok-end_group.ensures.group c.in_ok-clear.ensures.bytes

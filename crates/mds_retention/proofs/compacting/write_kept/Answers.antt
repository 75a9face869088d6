use Rattle.mds_retention.proofs.Drafts.{all_written}
use Rattle.mds_retention.proofs.compacting.write_kept.Goals as goal

pub flush-requires-clause-draft : goal.flush-requires-clause-draft
flush-requires-clause-draft g c = (c.in_ok-kept_lines.ensures.kept.0, c.in_ok-kept_lines.ensures.kept.2)

pub returns-clause-kept : goal.returns-clause-kept
returns-clause-kept g c =
    let kept = c.in_ok-kept_lines.ensures.kept in
    let written = all_written g.D.Device.seen g.D.Device.may_leave g.D.Device.is_true kept.0 c.flush.new.self c.in_ok-flush.ensures.page c.in_ok-flush.ensures.group
    (c.in_ok-flush.ensures.draft kept.0 kept.2) in
    (written.0, (kept.0, kept.1, written.1), written.2)

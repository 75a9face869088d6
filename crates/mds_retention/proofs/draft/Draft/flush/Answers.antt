use Rattle.mds_retention.proofs.Drafts.{bytes_written, group_ended}
use Rattle.mds_retention.proofs.draft.Draft.flush.Goals as goal

pub write-requires-clause-bytes : goal.write-requires-clause-bytes
write-requires-clause-bytes g c =
    let ended = group_ended g.D.Device.seen g.D.Device.may_leave g.D.Device.is_true c.args.self.now c.end_group.new.self c.end_group.ensures.file c.end_group.ensures.size c.requires.draft.0
    c.in_ok-end_group.ensures.page c.in_ok-end_group.ensures.group c.requires.draft.1 in
    (_, ended.bytes)

pub returns-clause-draft : goal.returns-clause-draft
returns-clause-draft g c = λ texts was.
    let ended = group_ended g.D.Device.seen g.D.Device.may_leave g.D.Device.is_true c.args.self.now c.end_group.new.self c.end_group.ensures.file c.end_group.ensures.size texts
    c.in_ok-end_group.ensures.page c.in_ok-end_group.ensures.group was in
    bytes_written g.D.Device.seen g.D.Device.may_leave g.D.Device.is_true texts c.end_group.new.self c.write.new.self c.in_ok-write.ensures.bytes c.write.ensures.group ended

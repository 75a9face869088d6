use Rattle.std.proofs.Common.{◌++◌, ◌∷◌, [], refl, rules}
use Rattle.mds_check.specs.Form.{IsText}
use Rattle.mds_retention.proofs.Drafts.{bytes_written, group_ended, text_more}
use Rattle.mds_retention.proofs.draft.Draft.add_text.Goals as goal

pub returns-then-open_lines-lt-GROUP_BYTES-clause-draft : goal.returns-then-open_lines-lt-GROUP_BYTES-clause-draft
returns-then-open_lines-lt-GROUP_BYTES-clause-draft g c = λ texts was.
    let text = c.args.text.now in
    let is : IsText text = search rules in
    text_more g.D.Device.seen g.D.Device.may_leave g.D.Device.is_true c.args.self.now _ refl refl texts text refl c.in_ok-push_line.ensures.pushed is c.in_ok-push_line.ensures.plain was

pub returns-then-len-lt-PAGE_BYTES-clause-draft : goal.returns-then-len-lt-PAGE_BYTES-clause-draft
returns-then-len-lt-PAGE_BYTES-clause-draft g c = λ texts was.
    let text = c.args.text.now in
    let is : IsText text = search rules in
    let more = text_more g.D.Device.seen g.D.Device.may_leave g.D.Device.is_true c.args.self.now (record c.args.self.now { group = c.push_line.new.group }) refl refl texts text refl
    c.in_ok-push_line.ensures.pushed is c.in_ok-push_line.ensures.plain was in
    group_ended g.D.Device.seen g.D.Device.may_leave g.D.Device.is_true (record c.args.self.now { group = c.push_line.new.group }) c.end_group.new.self c.end_group.ensures.file c.end_group.ensures.size
    (texts ++ text ∷ []) c.in_ok-end_group.ensures.page c.in_ok-end_group.ensures.group more

pub write-requires-clause-bytes : goal.write-requires-clause-bytes
write-requires-clause-bytes g c =
    let texts = c.requires.draft.0 in
    let text = c.args.text.now in
    let is : IsText text = search rules in
    let more = text_more g.D.Device.seen g.D.Device.may_leave g.D.Device.is_true c.args.self.now (record c.args.self.now { group = c.push_line.new.group }) refl refl texts text refl
    c.in_ok-push_line.ensures.pushed is c.in_ok-push_line.ensures.plain c.requires.draft.1 in
    let ended = group_ended g.D.Device.seen g.D.Device.may_leave g.D.Device.is_true (record c.args.self.now { group = c.push_line.new.group }) c.end_group.new.self c.end_group.ensures.file
    c.end_group.ensures.size (texts ++ text ∷ []) c.in_ok-end_group.ensures.page c.in_ok-end_group.ensures.group more in
    (_, ended.bytes)

pub returns-clause-draft : goal.returns-clause-draft
returns-clause-draft g c = λ texts was.
    let text = c.args.text.now in
    let is : IsText text = search rules in
    let more = text_more g.D.Device.seen g.D.Device.may_leave g.D.Device.is_true c.args.self.now (record c.args.self.now { group = c.push_line.new.group }) refl refl texts text refl
    c.in_ok-push_line.ensures.pushed is c.in_ok-push_line.ensures.plain was in
    let ended = group_ended g.D.Device.seen g.D.Device.may_leave g.D.Device.is_true (record c.args.self.now { group = c.push_line.new.group }) c.end_group.new.self c.end_group.ensures.file
    c.end_group.ensures.size (texts ++ text ∷ []) c.in_ok-end_group.ensures.page c.in_ok-end_group.ensures.group more in
    bytes_written g.D.Device.seen g.D.Device.may_leave g.D.Device.is_true (texts ++ text ∷ []) c.end_group.new.self c.write.new.self c.in_ok-write.ensures.bytes c.write.ensures.group ended

use Rattle.std.proofs.Common.{ap, ◌∙◌}
use Rattle.mds_journal.specs.Lines.{recovered_texts}
use Rattle.mds_journal.proofs.LineLemmas.{texts_have_no_feed}
use Rattle.mds_journal.proofs.GroupLemmas.{recovered-at_rest}
use Rattle.mds_journal.proofs.RepairLemmas.{opening_leaves}
use Rattle.mds_journal.proofs.all.read_all.Goals as goal

pub returns-in-Ok-finish-clause-same : goal.returns-in-Ok-finish-clause-same
returns-in-Ok-finish-clause-same g c = λ is.
    let then = c.in-Ok-finish.ensures.was_true is in
    let was = c.read_lines.ensures.was_true then in
    let same = (c.read_lines.ensures.untouched then).file ∙ c.in-Ok.ensures.same was in
    let file = g.D.Device.seen c.read_lines.new.opening.device in
    ap recovered_texts (c.in-Ok-finish.ensures.at_rest is) ∙ recovered-at_rest (recovered_texts file) (texts_have_no_feed file) ∙ ap recovered_texts same

pub returns-in-Ok-finish-clause-any_moment : goal.returns-in-Ok-finish-clause-any_moment
returns-in-Ok-finish-clause-any_moment g c = λ is.
    let then = c.in-Ok-finish.ensures.was_true is in
    let was = c.read_lines.ensures.was_true then in
    let same = (c.read_lines.ensures.untouched then).file ∙ c.in-Ok.ensures.same was in
    opening_leaves g.D.Device.seen g.D.Device.may_leave g.D.Device.moment g.D.Device.left_since c.args.device c.in-Ok.opening.device c.read_lines.new.opening.device c.in-Ok-finish.journal.device
    (c.in-Ok.ensures.any_moment was) (c.read_lines.ensures.untouched then) same (c.in-Ok-finish.ensures.any_moment is)

pub returns-in-Err-finish-clause-any_moment_err : goal.returns-in-Err-finish-clause-any_moment_err
returns-in-Err-finish-clause-any_moment_err g c = λ is.
    let then = c.in-Err-finish.ensures.was_true_err is in
    let was = c.read_lines.ensures.was_true then in
    let same = (c.read_lines.ensures.untouched then).file ∙ c.in-Ok.ensures.same was in
    opening_leaves g.D.Device.seen g.D.Device.may_leave g.D.Device.moment g.D.Device.left_since c.args.device c.in-Ok.opening.device c.read_lines.new.opening.device c.in-Err-finish.error.1
    (c.in-Ok.ensures.any_moment was) (c.read_lines.ensures.untouched then) same (c.in-Err-finish.ensures.any_moment_err is)

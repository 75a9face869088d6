use Rattle.std.proofs.Common.{◌+◌, ◌<◌, ◌^◌, List, length, ap, ◌∙◌, arith}
use Rattle.std.proofs.lemmas.Bool.Decides.{nat_tests}
use Rattle.mds_log.specs.Log.{Acceptance, requests}
use Rattle.mds_follow.proofs.Safety.{recorded_requests}
use Rattle.mds_follow.proofs.Desks.{put, not_put, left_more}
use Rattle.mds_follow.proofs.desk.Desk.put.Goals as goal

pub returns-in_err-append-clause-desk : goal.returns-in_err-append-clause-desk
returns-in_err-append-clause-desk g c =
    let after = c.in_err-append.ensures in
    not_put g.F.Record.is_sound g.F.Record.is_true g.F.Record.may_go_on g.F.Record.stands g.F.Tagged.tag g.F.Record.left_since g.J.RecordLog.start g.J.RecordLog.held c.args.self.now.file c.append.new.self
    c.args.self.now.keeper c.args.group.now _ c.requires after.sound after.was_true after.goes_on.0 after.unchanged after.goes_on.1 after.any_moment

pub returns-in_err-append-clause-any_moment : goal.returns-in_err-append-clause-any_moment
returns-in_err-append-clause-any_moment g c =
    let after = c.in_err-append.ensures in
    left_more g.F.Record.is_sound g.F.Record.is_true g.F.Record.may_go_on g.F.Record.stands g.F.Tagged.tag g.F.Record.left_since g.J.RecordLog.start g.J.RecordLog.held c.args.self.now.file c.append.new.self
    c.args.self.now.keeper c.args.group.now c.requires after.was_true after.any_moment

pub returns-clause-desk : goal.returns-clause-desk
returns-clause-desk g c =
    let after = c.in_ok-append.ensures in
    let long = ap (λ (w : List Acceptance). length w) c.front.ensures in
    let short : length c.args.self.now.keeper + length c.args.group.now < 2 ^ 63 =
    grind (arith, nat_tests, c.if-len-ge-MAX_RECORDED.false, c.if-group-ge-MAX_RECORDED.false, c.len-2.ensures, long) in
    put g.F.Record.is_sound g.F.Record.is_true g.F.Record.may_go_on g.F.Record.stands g.F.Tagged.tag g.F.Record.left_since g.J.RecordLog.start g.J.RecordLog.held c.args.self.now.file c.append.new.self
    c.args.self.now.keeper c.args.group.now c.note.new.keeper c.requires after.sound after.was_true after.goes_on after.appended after.any_moment g.met.F.Record.only_now c.note.ensures short

pub returns-clause-recorded : goal.returns-clause-recorded
returns-clause-recorded g c =
    ap (λ (w : List Acceptance). requests w) c.note.ensures ∙ recorded_requests (g.F.Tagged.tag c.append.new.self) c.args.self.now.keeper c.args.group.now

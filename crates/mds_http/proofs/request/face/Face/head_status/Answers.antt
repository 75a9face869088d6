use Rattle.std.proofs.Common.{subst, arith}
use Rattle.httparse.specs.Grammar.{MayBecomeRequest, HasNoRequest}
use Rattle.mds_http.proofs.HeadLemmas.{head_bytes, never_head, full_head, parts_of, judged_status}
use Rattle.mds_http.proofs.request.face.Face.head_status.Goals as goal

pub returns-in-Ok-Complete-clause-status : goal.returns-in-Ok-Complete-clause-status
returns-in-Ok-Complete-clause-status c =
    let front = c.args.front.now in
    let spans = c.in-Ok-Complete.spans in
    let read = rw c.in-Ok-Complete.field-0-is at c.in-Ok-Complete.ensures.complete in
    let within = rw c.in-Ok-Complete.field-0-is at c.in-Ok-Complete.ensures.within in
    let bytes = head_bytes front c.min.result c.min.ensures in
    judged_status front c.judge_head.result read.0 (full_head front _ _ spans read.0 bytes within.section.count_fits (omega arith) read.1)
    (c.judge_head.ensures.judged read.0 (parts_of _ _ spans read.0 read.1))

pub returns-in-Ok-Partial-clause-status : goal.returns-in-Ok-Partial-clause-status
returns-in-Ok-Partial-clause-status c =
    let bytes = head_bytes c.args.front.now c.min.result c.min.ensures in
    let none = rw c.in-Ok-Partial.field-0-is at c.in-Ok-Partial.ensures.partial in
    let unfinished = rw c.in-Ok-Partial.field-0-is at c.in-Ok-Partial.ensures.unfinished in
    (subst HasNoRequest bytes none, subst MayBecomeRequest bytes unfinished)

pub returns-in-Err-clause-status : goal.returns-in-Err-clause-status
returns-in-Err-clause-status c = never_head c.args.front.now _ (head_bytes c.args.front.now c.min.result c.min.ensures) c.in-Err.ensures.no_room

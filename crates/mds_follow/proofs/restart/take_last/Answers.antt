use Rattle.std.proofs.Common.{◌++◌, List, Bool, Result, IfOk, IfErr, sym, subst, arith}
use Rattle.std.specs.List.{AllZip}
use Rattle.mds_core.specs.declared.request.Request.{Request}
use Rattle.mds_journal.specs.Opening.{unread_bytes}
use Rattle.mds_entries.specs.Entry.{Tells}
use Rattle.mds_log.specs.Log.{requests}
use Rattle.mds_follow.specs.Reading.{HasNoMore, HasTexts}
use Rattle.mds_follow.specs.Pieces.{requests_in, IsEndBehind}
use Rattle.mds_follow.specs.Restart.{IsAskFault}
use Rattle.mds_follow.specs.declared.start_fault.StartFault.{StartFault}
use Rattle.mds_follow.proofs.ReadBack.{ask_fault, asked_more, few_told, longer, read_last, refilled_more, requests_length, stop_fault, told_both}
use Rattle.mds_follow.proofs.restart.take_last.Goals as goal

-- there are few requests
pub note_piece-requires : goal.note_piece-requires
note_piece-requires g c =
    let halfway = c.requires.halfway in
    let told = c.args.keeper.now in
    omega (arith, requests_length told, few_told g.D.Device.seen g.D.Device.is_true c.args.ahead.now.reader halfway.before c.args.last.now (requests told) halfway.ahead halfway.told)

-- the line of the request that the tables refuse is one of the file
pub returns-in-Err-clause-fault : goal.returns-in-Err-clause-fault
returns-in-Err-clause-fault g c truth =
    let halfway = c.requires.halfway in
    let last = c.args.last.now in
    let told = c.args.keeper.now in
    let tables = c.args.book.now.tables in
    let Why : Result (Unit {0}) StartFault → Type 0 = λ w. IfErr w (IsAskFault tables (requests told) last.numbers.items (requests_in last)) in
    ask_fault g.D.Device.seen g.D.Device.is_true c.args.ahead.now.reader halfway.before tables (requests told) last c.in-Err.fault truth halfway.ahead halfway.told
    (subst Why c.in-Err.is (c.ask_piece.ensures.fault told halfway.refilled))

-- and so is the line that gives no request
pub returns-in-Err-end-clause-fault : goal.returns-in-Err-end-clause-fault
returns-in-Err-end-clause-fault g c truth =
    let halfway = c.requires.halfway in
    let seen = g.D.Device.seen in
    let last = c.args.last.now in
    let told = c.args.keeper.now in
    let reader = c.args.ahead.now.reader in
    let texts = halfway.before ++ halfway.ahead.texts in
    let End : Result Bool StartFault → Type 0 = λ w. IsEndBehind seen g.D.Device.is_true reader texts w in
    stop_fault c.args.book.now.tables (seen reader.opening.device) texts (requests told ++ requests_in last) c.in-Err-end.fault
    (told_both seen g.D.Device.is_true reader halfway.before last (requests told) halfway.ahead halfway.told)
    ((subst End c.in-Err-end.is halfway.ahead.stand.end_is) truth)

-- all of the piece is asked and noted, and with it all that the file tells
pub returns-in-Ok-end-clause-all : goal.returns-in-Ok-end-clause-all
returns-in-Ok-end-clause-all g c =
    let halfway = c.requires.halfway in
    let seen = g.D.Device.seen in
    let is_true = g.D.Device.is_true in
    let last = c.args.last.now in
    let told = c.args.keeper.now in
    let reader = c.args.ahead.now.reader in
    let moment = g.D.Device.moment reader.opening.device in
    let asked = requests_in last in
    let new = c.note_piece.new.keeper in
    let noted = c.note_piece.ensures in
    let texts = halfway.before ++ halfway.ahead.texts in
    let Told : List Request → Type 0 = λ w. AllZip Tells texts w in
    let All : Result Bool StartFault → Type 0 = λ w. IfOk w (λ _. HasTexts seen is_true reader texts × (is_true reader.opening.device → HasNoMore (unread_bytes seen reader.opening))) in
    let end = subst All c.in-Ok-end.is (read_last seen is_true reader halfway.before halfway.ahead.texts last.end halfway.ahead.stand.end_is c.requires.end) in
    record {
      refilled = refilled_more moment told new asked noted c.args.seat.now c.ask_piece.new.seat halfway.refilled c.in-Ok.ensures.filled.1 c.in-Ok.ensures.filled.0;
      short = omega (arith, requests_length told, longer moment told new asked noted, few_told seen is_true reader halfway.before last (requests told) halfway.ahead halfway.told);
      texts = texts;
      has = end.0;
      told = subst Told (sym (asked_more moment told new asked noted)) (told_both seen is_true reader halfway.before last (requests told) halfway.ahead halfway.told);
      done = end.1;
    }

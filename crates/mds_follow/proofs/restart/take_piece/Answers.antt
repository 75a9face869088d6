use Rattle.std.proofs.Common.{◌++◌, ℕ, List, Result, IfErr, sym, subst, arith}
use Rattle.std.specs.List.{AllZip}
use Rattle.mds_core.specs.declared.request.Request.{Request}
use Rattle.mds_entries.specs.Entry.{Tells}
use Rattle.mds_log.specs.Log.{requests}
use Rattle.mds_follow.specs.Reading.{IsStartFault}
use Rattle.mds_follow.specs.Pieces.{requests_in}
use Rattle.mds_follow.specs.Restart.{IsAskFault, IsTaken, resuming}
use Rattle.mds_follow.specs.declared.piece.Piece.{Piece}
use Rattle.mds_follow.specs.declared.start_fault.StartFault.{StartFault}
use Rattle.mds_follow.proofs.ReadBack.{ask_fault, asked_more, few_told, read_piece, refilled_more, requests_length, told_both}
use Rattle.mds_follow.proofs.restart.take_piece.Goals as goal

-- there are few requests
pub note_piece-requires : goal.note_piece-requires
note_piece-requires g c =
    let halfway = c.requires.halfway in
    let told = c.args.keeper.now in
    omega (arith, requests_length told, few_told g.D.Device.seen g.D.Device.is_true c.args.ahead.now.reader halfway.before c.args.piece.now (requests told) halfway.ahead halfway.told)

-- the line of the request that the tables refuse is one of the file
pub returns-in-Err-clause-fault : goal.returns-in-Err-clause-fault
returns-in-Err-clause-fault g c truth =
    let was = c.ask_and_read.ensures.read_on.was_true truth in
    let halfway = c.requires.halfway in
    let piece = c.args.piece.now in
    let told = c.args.keeper.now in
    let tables = c.args.book.now.tables in
    let Why : Result (Unit {0}) StartFault → Type 0 = λ w. IfErr w (IsAskFault tables (requests told) piece.numbers.items (requests_in piece)) in
    let Fault : List ℕ → Type 0 = λ w. IsStartFault tables w c.in-Err.fault in
    subst Fault (sym (c.ask_and_read.ensures.read_on.untouched truth).file)
    (ask_fault g.D.Device.seen g.D.Device.is_true c.args.ahead.now.reader halfway.before tables (requests told) piece c.in-Err.fault was halfway.ahead halfway.told
    (subst Why c.in-Err.is (c.ask_and_read.ensures.fault told halfway.refilled)))

-- all of the piece is asked and noted, and the next one comes behind it
pub returns-clause-taken : goal.returns-clause-taken
returns-clause-taken g c =
    let seen = g.D.Device.seen in
    let is_true = g.D.Device.is_true in
    let halfway = c.requires.halfway in
    let piece = c.args.piece.now in
    let told = c.args.keeper.now in
    let before = c.args.ahead.now.reader in
    let then = c.ask_and_read.new.ahead in
    let moment = g.D.Device.moment then.reader.opening.device in
    let seat = c.ask_and_read.new.seat in
    let next = c.ask_and_read.ensures.next in
    let new = c.note_piece.new.keeper in
    let noted = c.note_piece.ensures in
    let asked = requests_in piece in
    let texts = halfway.before ++ halfway.ahead.texts in
    let Told : List Request → Type 0 = λ w. AllZip Tells texts w in
    let Next : Piece → Type 0 = λ w. IsTaken seen is_true g.D.Device.moment (resuming before c.args.seat.now told piece) (resuming then.reader seat new w) in
    subst Next (sym c.swap.ensures.x_after) (record {
      noted = noted;
      halfway = record {
        refilled = refilled_more moment told new asked noted c.args.seat.now seat halfway.refilled c.in-Ok.ensures.filled.1 c.in-Ok.ensures.filled.0;
        numbered = next.numbered;
        before = texts;
        told = subst Told (sym (asked_more moment told new asked noted)) (told_both seen is_true before halfway.before piece (requests told) halfway.ahead halfway.told);
        ahead = next.ahead texts (read_piece seen is_true before halfway.before piece halfway.ahead c.requires.more);
      };
      further = next.further;
    })

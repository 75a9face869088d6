use Rattle.std.proofs.Common.{◌<◌, length, sym, subst, arith}
use Rattle.std.proofs.lemmas.Option.{slice_get-get_or}
use Rattle.mds_log.specs.Log.{requests}
use Rattle.mds_follow.specs.Restart.{IsAskFault}
use Rattle.mds_follow.specs.declared.start_fault.StartFault.{StartFault}
use Rattle.mds_follow.proofs.ReadBack.{refused_told, refused_within}
use Rattle.mds_follow.proofs.restart.ask_portion.Goals as goal

-- the request that the tables refuse is one of these, so its line has a number
pub returns-in-Refused-clause-fault : goal.returns-in-Refused-clause-fault
returns-in-Refused-clause-fault g c told refilled =
    let tables = c.args.book.now.tables in
    let numbers = c.args.numbers.now in
    let asked = c.args.requests.now in
    let at = c.in-Err.stop.at in
    let why = c.in-Err.ensures.refused c.in-Refused.is in
    let within : at < length numbers = omega (arith, c.requires.numbered, refused_within tables c.args.seat.now asked at why) in
    let Fault : StartFault → Type 0 = λ w. IsAskFault tables (requests told) numbers asked w in
    subst Fault (sym c.of_journal.ensures) (refused_told tables c.args.seat.now told asked numbers _ at refilled (slice_get-get_or numbers at 0 within) why)

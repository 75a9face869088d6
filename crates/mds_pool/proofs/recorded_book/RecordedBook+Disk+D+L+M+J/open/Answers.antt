use Rattle.std.proofs.Common.{◌≡◌, ℕ, ap, subst, sym, slice_set}
use Rattle.mds_table.specs.Tables.{Tables}
use Rattle.mds_book.specs.Books.{Opened}
use Rattle.mds_pool.specs.Serving.{AreWorkers}
use Rattle.mds_follow.specs.Reading.{IsNotStarted}
use Rattle.mds_follow.proofs.Blanks.{keeps_all, untouched_self}
use Rattle.mds_pool.proofs.EndLemmas.{first_resumed, resumed}
use Rattle.mds_pool.proofs.recorded_book.RecordedBook+Disk+D+L+M+J.open.Goals as goal

-- the first seat, which asked what the journal tells, notes what the others note, and they were told nothing
pub invariant_of-result : goal.invariant_of-result
invariant_of-result g c =
    let many : c.in-Ok.opened.0.seats ≡ c.args.opening.seats = ap (λ (b : Opened). b.seats) c.in-Ok.ensures.book in (
      subst (λ (n : ℕ). AreWorkers n (slice_set c.in-Ok.opened.1.items 0 c.resume.new.seat)) (sym many)
          (first_resumed c.args.opening.seats c.in-Ok.opened.1.items c.index_mut.result.now c.resume.new.seat c.requires.fits.seats.0 c.in-Ok.ensures.seats
          c.index_mut.ensures.value c.resume.ensures.keep),
      resumed c.args.opening.seats c.in-Ok.opened.1.items c.resume.new.seat c.requires.fits.seats.0 c.in-Ok.ensures.seats c.in-Ok-resume.ensures.asked.all,
    )

-- nothing was done to the file
pub returns-in-Err-clause-any_moment_err : goal.returns-in-Err-clause-any_moment_err
returns-in-Err-clause-any_moment_err g c =
    let device = c.args.reader.opening.device in
    rw c.into_device.ensures (λ truth.
    keeps_all g.D.Device.seen g.D.Device.may_leave g.D.Device.moment g.D.Device.left_since device device (c.requires.at_first.reading.read truth).durable ((g.met.D.Device g.world.𝓛 g.world.𝓜 g.world.𝓡 ((λ s x. x), (λ x. x), (λ x. x), λ x. x)).only_now device)
    (untouched_self g.D.Device.seen g.D.Device.may_leave g.D.Device.moment g.D.Device.left_since device))

-- the tables of the book are those that it was opened with
pub returns-in-Err-resume-clause-fault : goal.returns-in-Err-resume-clause-fault
returns-in-Err-resume-clause-fault g c truth =
    let file = g.D.Device.seen c.args.reader.opening.device in
    let left = g.D.Device.seen c.in-Err-resume.error.1 in
    let Fault : Tables → Type 0 = λ w. IsNotStarted w file left c.in-Err-resume.error.0 in
    subst Fault (ap (λ (b : Opened). b.tables) c.in-Ok.ensures.book) (c.in-Err-resume.ensures.fault truth).1

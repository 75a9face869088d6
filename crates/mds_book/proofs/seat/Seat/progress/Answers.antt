use Rattle.mds_book.proofs.seat.Seat.progress.Goals as goal

pub returns-clause-first : goal.returns-clause-first
returns-clause-first g c = rw (← c.self.view_is) c.progress.ensures

pub returns-clause-second : goal.returns-clause-second
returns-clause-second g c = rw (← c.self.view_is) c.progress-2.ensures

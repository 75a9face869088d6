use Rattle.std.proofs.Common.{inl, inr}
use Rattle.std.proofs.KnownBytes.{Keeps-refl}
use Rattle.mds_city.proofs.journal.serve_to_end.Goals as goal

-- the tables were had, and nothing went out before the journal
pub returns-in-Err-open_reader-clause-err : goal.returns-in-Err-open_reader-clause-err
returns-in-Err-open_reader-clause-err g c =
    inr (inr (inr (inl ((c.in-Ok.tables, c.in-Ok.ensures.ok), c.in-Err-open_reader.ensures.err, Keeps-refl _))))

-- nor before the port for figures
pub returns-in-Err-prepare-clause-err : goal.returns-in-Err-prepare-clause-err
returns-in-Err-prepare-clause-err g c =
    inr (inr (inl ((c.in-Ok.tables, c.in-Ok.ensures.ok), (c.in-Err-prepare.fault, c.problem_of_listening.ensures), Keeps-refl _)))

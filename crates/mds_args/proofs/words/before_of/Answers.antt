use Rattle.std.proofs.Common.{codes, Some, None, rules}
use Rattle.clap.specs.Words.{first_of, found_of, rows_of}
use Rattle.mds_args.specs.Words.{HasNoNumber, LacksBefore, max_time}
use Rattle.mds_args.proofs.CutLemmas.{no_before}
use Rattle.mds_args.proofs.WordsLemmas.{text_of_rows}
use Rattle.mds_args.proofs.words.before_of.Goals as goal

pub returns-in_err-number_of-in-Some : goal.returns-in_err-number_of-in-Some
returns-in_err-number_of-in-Some c =
    let none : HasNoNumber 0 max_time (first_of (codes "before") (rows_of (found_of c.args.values.now))) = search rules in
    let lacks : LacksBefore (rows_of (found_of c.args.values.now)) =
    no_before (rows_of (found_of c.args.values.now)) c.in-Some.field-0.now
    (text_of_rows (found_of c.args.values.now) (codes "before") (Some c.in-Some.field-0) c.in-Some.ensures) none in
    search rules

pub returns-in-None : goal.returns-in-None
returns-in-None c = text_of_rows (found_of c.args.values.now) (codes "before") None c.in-None.ensures

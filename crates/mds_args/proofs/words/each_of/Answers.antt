use Rattle.std.proofs.Common.{rules, codes, Some, None}
use Rattle.clap.specs.Words.{found_of, rows_of}
use Rattle.mds_args.specs.Words.{GoesOn}
use Rattle.mds_args.proofs.WordsLemmas.{text_of_rows, both_told}
use Rattle.mds_args.proofs.words.each_of.Goals as goal

pub returns-in-Some : goal.returns-in-Some
returns-in-Some c =
    let goes_on : GoesOn (rows_of (found_of c.args.values.now)) = search rules in
    both_told (rows_of (found_of c.args.values.now)) c.in-Some.field-0.now goes_on
    (text_of_rows (found_of c.args.values.now) (codes "each") (Some c.in-Some.field-0) c.in-Some.ensures)

pub returns-in-None : goal.returns-in-None
returns-in-None c =
    let goes_on : GoesOn (rows_of (found_of c.args.values.now)) = search rules in
    (text_of_rows (found_of c.args.values.now) (codes "each") None c.in-None.ensures, goes_on)

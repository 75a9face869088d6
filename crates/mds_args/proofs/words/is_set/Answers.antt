use Rattle.std.proofs.Common.{◌≡◌, None, Some, rules}
use Rattle.clap.specs.Words.{first_of, found_of, rows_of}
use Rattle.mds_args.proofs.WordsLemmas.{text_of_rows}
use Rattle.mds_args.proofs.words.is_set.Goals as goal

pub returns-in-Some : goal.returns-in-Some
returns-in-Some c =
    let value : first_of c.args.name.now (rows_of (found_of c.args.values.now)) ≡ Some c.in-Some.value.now =
    text_of_rows (found_of c.args.values.now) c.args.name.now (Some c.in-Some.value) c.in-Some.ensures in
    rw value (search rules)

pub returns-in-None : goal.returns-in-None
returns-in-None c =
    let none : first_of c.args.name.now (rows_of (found_of c.args.values.now)) ≡ None =
    text_of_rows (found_of c.args.values.now) c.args.name.now None c.in-None.ensures in
    rw none (search rules)

use Rattle.std.proofs.Common.{◌≡◌, None, Some, codes, rules}
use Rattle.clap.specs.Words.{first_of, found_of, rows_of}
use Rattle.mds_args.proofs.WordsLemmas.{text_of_rows}
use Rattle.mds_args.proofs.words.missing_of_compact.Goals as goal

pub returns-in-Some-clause-neither : goal.returns-in-Some-clause-neither
returns-in-Some-clause-neither c =
    let value : first_of (codes "cut") (rows_of (found_of c.args.values.now)) ≡ Some c.in-Some.field-0.now =
    text_of_rows (found_of c.args.values.now) (codes "cut") (Some c.in-Some.field-0) c.in-Some.ensures in
    rw value (search rules)

pub returns-in-Some-2-clause-neither : goal.returns-in-Some-2-clause-neither
returns-in-Some-2-clause-neither c =
    let value : first_of (codes "cut") (rows_of (found_of c.args.values.now)) ≡ Some c.in-Some-2.field-0.now =
    text_of_rows (found_of c.args.values.now) (codes "cut") (Some c.in-Some-2.field-0) c.in-Some-2.ensures in
    rw value (search rules)

pub returns-in-None-clause-together : goal.returns-in-None-clause-together
returns-in-None-clause-together c =
    let none : first_of (codes "cut") (rows_of (found_of c.args.values.now)) ≡ None =
    text_of_rows (found_of c.args.values.now) (codes "cut") None c.in-None.ensures in
    rw none (search rules)

use Rattle.std.proofs.Common.{◌≡◌, None, Some, rules}
use Rattle.clap.specs.Words.{first_of, found_of, rows_of}
use Rattle.mds_args.specs.Words.{HasNoNumber}
use Rattle.mds_args.proofs.WordsLemmas.{text_of_rows}
use Rattle.mds_args.proofs.words.number_of.Goals as goal

pub returns-in_err-get_str : goal.returns-in_err-get_str
returns-in_err-get_str c =
    let none : first_of c.args.name.now (rows_of (found_of c.args.values.now)) ≡ None =
    text_of_rows (found_of c.args.values.now) c.args.name.now None c.in_err-get_str.ensures in
    let lacks : HasNoNumber c.args.least c.args.most (first_of c.args.name.now (rows_of (found_of c.args.values.now))) = rw none (λ number is. is) in
    search rules

pub returns : goal.returns
returns c =
    let value : first_of c.args.name.now (rows_of (found_of c.args.values.now)) ≡ Some c.in_ok-get_str.field-0.now =
    text_of_rows (found_of c.args.values.now) c.args.name.now (Some c.in_ok-get_str.field-0) c.in_ok-get_str.ensures in
    rw value c.number_in.ensures

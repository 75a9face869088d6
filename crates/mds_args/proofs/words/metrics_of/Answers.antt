use Rattle.std.proofs.Common.{codes, Some, None, rules}
use Rattle.clap.specs.Words.{first_of, found_of, rows_of}
use Rattle.mds_args.specs.Words.{HasNoNumber, LacksMetrics, max_port}
use Rattle.mds_args.proofs.WordsLemmas.{no_metrics, text_of_rows}
use Rattle.mds_args.proofs.words.metrics_of.Goals as goal

pub returns-in_err-number_of-in-Some : goal.returns-in_err-number_of-in-Some
returns-in_err-number_of-in-Some c =
    let none : HasNoNumber 1 max_port (first_of (codes "metrics") (rows_of (found_of c.args.values.now))) = search rules in
    let lacks : LacksMetrics (rows_of (found_of c.args.values.now)) =
    no_metrics (rows_of (found_of c.args.values.now)) c.in-Some.field-0.now
    (text_of_rows (found_of c.args.values.now) (codes "metrics") (Some c.in-Some.field-0) c.in-Some.ensures) none in
    search rules

pub returns-in-None : goal.returns-in-None
returns-in-None c = text_of_rows (found_of c.args.values.now) (codes "metrics") None c.in-None.ensures

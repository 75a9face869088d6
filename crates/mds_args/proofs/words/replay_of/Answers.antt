use Rattle.std.proofs.Common.{◌≡◌, None, Some, codes, refl, rules}
use Rattle.clap.specs.Words.{first_of, found_of, rows_of}
use Rattle.mds_args.proofs.WordsLemmas.{text_of_rows}
use Rattle.mds_args.proofs.words.replay_of.Goals as goal

pub returns-in_err-file : goal.returns-in_err-file
returns-in_err-file c =
    let missing : first_of (codes "FILE") (rows_of (found_of c.args.values.now)) ≡ None =
    text_of_rows (found_of c.args.values.now) (codes "FILE") None c.in_err-file.ensures in
    search rules

pub returns : goal.returns
returns c = (
  refl,
  (
    text_of_rows (found_of c.args.values.now) (codes "FILE") (Some c.in_ok-file.file) c.in_ok-file.ensures,
    text_of_rows (found_of c.args.values.now) (codes "table") c.get_str-2.result c.get_str-2.ensures,
    c.is_set.ensures,
    c.is_set-lines.ensures,
    c.is_set-unlimited.ensures,
    search rules,
    c.in_ok-workers.ensures,
  ),
)

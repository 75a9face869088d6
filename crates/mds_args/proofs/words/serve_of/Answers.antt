use Rattle.std.proofs.Common.{codes, refl}
use Rattle.clap.specs.Words.{found_of}
use Rattle.mds_args.proofs.WordsLemmas.{text_of_rows}
use Rattle.mds_args.proofs.words.serve_of.Goals as goal

pub returns : goal.returns
returns c = (
  refl,
  (
    c.in_ok-port.ensures,
    c.in_ok-each.ensures,
    c.in_ok-workers.ensures,
    text_of_rows (found_of c.args.values.now) (codes "table") c.get_str.result c.get_str.ensures,
    text_of_rows (found_of c.args.values.now) (codes "journal") c.get_str-2.result c.get_str-2.ensures,
    c.in_ok-metrics.ensures,
  ),
)

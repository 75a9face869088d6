use Rattle.std.proofs.Common.{None, Some, ◌∷◌, [], codes, inl, refl, rules}
use Rattle.clap.specs.Words.{found_of, rows_of}
use Rattle.mds_args.specs.Words.{LacksOneOf}
use Rattle.mds_args.proofs.WordsLemmas.{text_of_rows}
use Rattle.mds_args.proofs.words.vehicles_of.Goals as goal

pub returns-in_err-file : goal.returns-in_err-file
returns-in_err-file c =
    let lacks : LacksOneOf (codes "FILE" ∷ []) (rows_of (found_of c.args.values.now)) =
    inl (text_of_rows (found_of c.args.values.now) (codes "FILE") None c.in_err-file.ensures) in
    search rules

pub returns : goal.returns
returns c =
    let values = found_of c.args.values.now in (
      refl,
      (
        text_of_rows values (codes "FILE") (Some c.in_ok-file.file) c.in_ok-file.ensures,
        text_of_rows values (codes "table") c.get_str-2.result c.get_str-2.ensures,
        c.is_set.ensures,
      ),
    )

use Rattle.std.proofs.Common.{None, Some, ◌∷◌, [], codes, inl, inr, refl, rules}
use Rattle.clap.specs.Words.{found_of, rows_of}
use Rattle.mds_args.specs.Words.{LacksOneOf}
use Rattle.mds_args.proofs.WordsLemmas.{text_of_rows}
use Rattle.mds_args.proofs.words.events_of.Goals as goal

pub returns-in_err-get_str : goal.returns-in_err-get_str
returns-in_err-get_str c =
    let lacks : LacksOneOf (codes "FILE" ∷ codes "PROVIDER" ∷ codes "DEVICE" ∷ []) (rows_of (found_of c.args.values.now)) =
    inl (text_of_rows (found_of c.args.values.now) (codes "FILE") None c.in_err-get_str.ensures) in
    search rules

pub returns-in_err-get_str-2 : goal.returns-in_err-get_str-2
returns-in_err-get_str-2 c =
    let lacks : LacksOneOf (codes "FILE" ∷ codes "PROVIDER" ∷ codes "DEVICE" ∷ []) (rows_of (found_of c.args.values.now)) =
    inr (inl (text_of_rows (found_of c.args.values.now) (codes "PROVIDER") None c.in_err-get_str-2.ensures)) in
    search rules

pub returns-in_err-get_str-3 : goal.returns-in_err-get_str-3
returns-in_err-get_str-3 c =
    let lacks : LacksOneOf (codes "FILE" ∷ codes "PROVIDER" ∷ codes "DEVICE" ∷ []) (rows_of (found_of c.args.values.now)) =
    inr (inr (inl (text_of_rows (found_of c.args.values.now) (codes "DEVICE") None c.in_err-get_str-3.ensures))) in
    search rules

pub returns : goal.returns
returns c =
    let values = found_of c.args.values.now in (
      refl,
      (
        text_of_rows values (codes "FILE") (Some c.in_ok-get_str.field-0) c.in_ok-get_str.ensures,
        text_of_rows values (codes "PROVIDER") (Some c.in_ok-get_str-2.field-0) c.in_ok-get_str-2.ensures,
        text_of_rows values (codes "DEVICE") (Some c.in_ok-get_str-3.field-0) c.in_ok-get_str-3.ensures,
      ),
    )

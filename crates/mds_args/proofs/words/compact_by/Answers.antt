use Rattle.std.proofs.Common.{◌≡◌, ◌∙◌, ℕ, List, length, Option, None, Some, codes, refl, sym, subst, rules}
use Rattle.clap.specs.Words.{first_of, found_of, rows_of}
use Rattle.mds_args.specs.Words.{AsksNothing, HasCuts, IsBefore}
use Rattle.mds_args.specs.declared.cuts.CutWords.{CutWords}
use Rattle.mds_args.proofs.CutLemmas.{before_none, compact_only, cuts_empty, cuts_none}
use Rattle.mds_args.proofs.WordsLemmas.{text_of_rows}
use Rattle.mds_args.proofs.words.compact_by.Goals as goal

pub returns-in_err-old : goal.returns-in_err-old
returns-in_err-old c =
    let values = rows_of (found_of c.args.values.now) in
    let missing : first_of (codes "OLD") values ≡ None = text_of_rows (found_of c.args.values.now) (codes "OLD") None c.in_err-old.ensures in
    let lacks : AsksNothing (Some (codes "compact", values)) = compact_only values (λ old new before cuts follow table has. let is = sym missing ∙ has.0 in cc) in
    search rules

pub returns-in_err-new : goal.returns-in_err-new
returns-in_err-new c =
    let values = rows_of (found_of c.args.values.now) in
    let missing : first_of (codes "NEW") values ≡ None = text_of_rows (found_of c.args.values.now) (codes "NEW") None c.in_err-new.ensures in
    let lacks : AsksNothing (Some (codes "compact", values)) = compact_only values (λ old new before cuts follow table has. let is = sym missing ∙ has.1 in cc) in
    search rules

pub returns-in_err-before : goal.returns-in_err-before
returns-in_err-before c =
    let values = rows_of (found_of c.args.values.now) in
    let lacks : AsksNothing (Some (codes "compact", values)) = compact_only values (λ old new before cuts follow table has. c.in_err-before.ensures before has.2) in
    search rules

pub returns-then-is_empty : goal.returns-then-is_empty
returns-then-is_empty c =
    let values = rows_of (found_of c.args.values.now) in
    let none : c.in_ok-before.before ≡ None = search rules in
    let empty : length c.args.cuts.items ≡ 0 = search rules in
    let Before : Option ℕ → Type 0 = λ before. IsBefore values before in
    let Has : List CutWords → Type 0 = λ cuts. HasCuts values cuts in
    compact_only values
    (λ old new before cuts follow table has. has.4 (before_none values before (subst Before none c.in_ok-before.ensures) has.2) (cuts_none _ cuts.items (subst Has (cuts_empty c.args.cuts.items empty) c.requires) has.3))

pub returns-in_err-follow : goal.returns-in_err-follow
returns-in_err-follow c =
    let values = rows_of (found_of c.args.values.now) in
    let why = c.in_err-follow.ensures in
    let Has : List CutWords → Type 0 = λ cuts. HasCuts values cuts in
    let lacks : AsksNothing (Some (codes "compact", values)) =
    compact_only values (λ old new before cuts follow table has. why.1 (c.deref.ensures.value ∙ cuts_none _ c.args.cuts.items (subst Has (has.6 (has.5.1 why.0)) has.3) c.requires)) in
    search rules

pub returns : goal.returns
returns c =
    let values = found_of c.args.values.now in (
      refl,
      (
        text_of_rows values (codes "OLD") (Some c.in_ok-old.old) c.in_ok-old.ensures,
        text_of_rows values (codes "NEW") (Some c.in_ok-new.new) c.in_ok-new.ensures,
        c.in_ok-before.ensures,
        c.requires,
        search rules,
        c.in_ok-follow.ensures.0,
        λ is. sym c.deref.ensures.value ∙ c.in_ok-follow.ensures.1 is,
        text_of_rows values (codes "table") c.get_str-3.result c.get_str-3.ensures,
      ),
    )

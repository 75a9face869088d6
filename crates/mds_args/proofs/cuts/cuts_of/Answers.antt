use Rattle.std.proofs.Common.{◌≡◌, ◌∙◌, [], List, Some, None, codes, option_map, unwrap_or, ap, subst, rules}
use Rattle.std.specs.Prelude.{IfOk, MatchOption}
use Rattle.clap.specs.Words.{Text, all_of, found_of, rows_of}
use Rattle.clap.proofs.WalkLemmas.{raw_values-rows}
use Rattle.mds_args.specs.Words.{AreCuts}
use Rattle.mds_args.specs.declared.cuts.CutWords.{CutWords}
use Rattle.mds_args.proofs.CutLemmas.{texts}
use Rattle.mds_args.proofs.cuts.cuts_of.Goals as goal

pub returns-in-Some : goal.returns-in-Some
returns-in-Some c =
    let values = found_of c.args.values.now in
    let found : option_map (λ words. texts words.now) (Some c.in-Some.words) ≡ all_of (codes "cut") (rows_of values) = c.in-Some.ensures ∙ raw_values-rows values (codes "cut") in
    let Are : List Text → Type 0 = λ words. IfOk c.cuts_in.result (λ found. MatchOption found ((cuts : List CutWords) → AreCuts words cuts → ⊥) (λ cuts. AreCuts words cuts.items)) in
    subst Are (ap (λ words. unwrap_or words []) found) c.cuts_in.ensures

pub returns-in-None : goal.returns-in-None
returns-in-None c =
    let values = found_of c.args.values.now in
    let found : None ≡ all_of (codes "cut") (rows_of values) = c.in-None.ensures ∙ raw_values-rows values (codes "cut") in
    let Are : List Text → Type 0 = λ words. AreCuts words c.new.result.items in
    subst Are (ap (λ words. unwrap_or words []) found) (search rules)

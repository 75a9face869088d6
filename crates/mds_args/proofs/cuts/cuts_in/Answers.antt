use Rattle.std.proofs.Common.{◌≡◌, ◌<◌, ◌∷◌, ◌++◌, [], List, take, drop, ◌-◌, length, sym, subst, rules, append-nil}
use Rattle.clap.specs.Words.{Text}
use Rattle.mds_args.specs.Words.{AreCuts}
use Rattle.mds_args.specs.declared.cuts.CutWords.{CutWords}
use Rattle.mds_args.proofs.CutLemmas.{texts, Gives, LeavesCuts, gives_more, leaves_more, left_behind, no_texts, none_left, some_texts}
use Rattle.mds_args.proofs.cuts.cuts_in.Goals as goal

pub cuts-init : goal.cuts-init
cuts-init c = (λ more are. search rules, λ all are. (all, are))

pub returns-in_default : goal.returns-in_default
returns-in_default c =
    let left = c.cuts.left.now in
    let long : 0 < length left = search rules in
    none_left (texts c.args.words.now) (texts left) (some_texts left long) c.cuts.invariant.1 (search rules)

pub cuts-preserved : goal.cuts-preserved
cuts-preserved c =
    let words = texts c.args.words.now in
    let left = c.cuts.left.now in
    let cuts = c.cuts.cuts.items in
    let cut = c.in-Some.cut in
    let long : 0 < length left = search rules in
    let Is : List Text → Type 0 = λ rest. Gives words rest (cuts ++ cut ∷ []) × LeavesCuts words rest in
    let Told : List CutWords → Type 0 = λ all. Gives words (texts (take (length left - 3) (drop 3 left))) all × LeavesCuts words (texts (take (length left - 3) (drop 3 left))) in
    subst Told (sym c.in_ok-push.ensures.items)
    (subst Is (sym (left_behind left)) (gives_more words (texts left) cuts cut c.cuts.invariant.0 c.in-Some.ensures, leaves_more words (texts left) (some_texts left long) c.cuts.invariant.1))

pub returns : goal.returns
returns c =
    let words = texts c.args.words.now in
    let none : length c.cuts.left.now ≡ 0 = search rules in
    let P : List CutWords → Type 0 = λ all. AreCuts words all in
    subst P (append-nil c.cuts.cuts.items) (c.cuts.invariant.0 [] (no_texts c.cuts.left.now none))

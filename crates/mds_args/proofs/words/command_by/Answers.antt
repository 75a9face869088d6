use Rattle.std.proofs.Common.{◌≡◌, ◌∙◌, [], true, inl, ap, refl, subst, map}
use Rattle.std.proofs.lemmas.Result.{IfOk-weaker}
use Rattle.std.specs.Prelude.{IfOk, IfErr}
use Rattle.clap.specs.Words.{App, HasKind, fault_of, is_simple, is_simple_and_free, subcommand_of, takes}
use Rattle.mds_args.specs.Error.{SaysMissing}
use Rattle.mds_args.specs.Words.{Asks, program_app}
use Rattle.mds_args.proofs.WordsLemmas.{is_cause, is_memory}
use Rattle.clap.proofs.TakesLemmas.{passed_up}
use Rattle.mds_args.proofs.words.command_by.Goals as goal

-- `clap` says of such a program which faults it finds
is_free : is_simple_and_free program_app ≡ true
is_free = refl

-- and what it gives of words
is_plain : is_simple program_app ≡ true
is_plain = refl

pub returns-in_err-matches-clause-err : goal.returns-in_err-matches-clause-err
returns-in_err-matches-clause-err g c =
    passed_up _ _ _ c.from_residual.ensures.1
    (λ taken asked. c.in_err-matches.ensures.passes (ap (λ (a : App). takes a (map g.S.AsStr.text c.args.words.now)) c.requires ∙ taken))

pub returns-in_err-matches-clause-kind : goal.returns-in_err-matches-clause-kind
returns-in_err-matches-clause-kind g c =
    let words = map g.S.AsStr.text c.args.words.now in
    let found = c.in_err-matches.ensures.kinds (ap is_simple_and_free c.requires ∙ is_free) in
    passed_up _ _ _ c.from_residual.ensures.1
    (inl (subst (λ (a : App). HasKind (fault_of a words) c.in_err-matches.field-0.0) c.requires found))

pub returns-clause-taken : goal.returns-clause-taken
returns-clause-taken g c =
    let words = map g.S.AsStr.text c.args.words.now in
    let found = c.in_ok-matches.ensures.kinds (ap is_simple_and_free c.requires ∙ is_free) in
    let free : fault_of program_app words ≡ [] = subst (λ (a : App). fault_of a words ≡ []) c.requires found in
    IfOk-weaker c.command_or_error.result _ _ (λ _ _. free) c.command_or_error.ensures.ok

pub returns-clause-kind : goal.returns-clause-kind
returns-clause-kind g c =
    let words = map g.S.AsStr.text c.args.words.now in
    let none = c.in_ok-matches.ensures.kinds (ap is_simple_and_free c.requires ∙ is_free) in
    let free : fault_of program_app words ≡ [] = subst (λ (a : App). fault_of a words ≡ []) c.requires none in
    let asks = (c.in_ok-matches.ensures.ok.2 (ap is_simple c.requires ∙ is_plain)).1 ∙ ap (λ (a : App). subcommand_of a words) c.requires in
    is_cause c.command_or_error.result words free (subst (λ found. IfErr c.command_or_error.result (SaysMissing found)) asks c.command_or_error.ensures.err)

pub returns-clause-ok : goal.returns-clause-ok
returns-clause-ok g c =
    let words = map g.S.AsStr.text c.args.words.now in
    let asks = (c.in_ok-matches.ensures.ok.2 (ap is_simple c.requires ∙ is_plain)).1 ∙ ap (λ (a : App). subcommand_of a words) c.requires in
    subst (λ found. IfOk c.command_or_error.result (Asks found)) asks c.command_or_error.ensures.ok

pub returns-clause-err : goal.returns-clause-err
returns-clause-err g c =
    let words = map g.S.AsStr.text c.args.words.now in
    let asks = (c.in_ok-matches.ensures.ok.2 (ap is_simple c.requires ∙ is_plain)).1 ∙ ap (λ (a : App). subcommand_of a words) c.requires in
    is_memory _ c.command_or_error.result _ (subst (λ found. IfErr c.command_or_error.result (SaysMissing found)) asks c.command_or_error.ensures.err)

use Rattle.std.proofs.Common.{rules, arith}
use Rattle.mds_args.specs.Words.{IsFirstCut}
use Rattle.mds_args.specs.declared.cuts.CutWords.{CutWords}
use Rattle.mds_args.proofs.CutLemmas.{no_first, texts}
use Rattle.mds_args.proofs.cuts.first_cut.Goals as goal

pub returns-in_err-events : goal.returns-in_err-events
returns-in_err-events c =
    let none : (cut : CutWords) → IsFirstCut (texts c.args.words.now) cut → ⊥ = no_first c.args.words.now _ (omega (arith, c.if-words-lt-WORDS.false)) c.in_err-events.ensures in
    search rules

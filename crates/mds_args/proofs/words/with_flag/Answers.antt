use Rattle.std.proofs.Common.{Some, ◌∙◌, ap}
use Rattle.clap.specs.Words.{Rule, rule_of}
use Rattle.clap.specs.declared.builder.action.ArgAction.TheVariants.{SetTrue}
use Rattle.mds_args.proofs.WordsLemmas.{told_rule}
use Rattle.mds_args.proofs.words.with_flag.Goals as goal

pub returns : goal.returns
returns c = λ app told.
    told_rule c.with_arg.result app _ _ (ap rule_of c.action.ensures ∙ ap (λ (r : Rule). record r { action = Some SetTrue }) c.long_argument.ensures.rule) (c.with_arg.ensures app told)

use Rattle.std.proofs.Common.{Some, ◌∙◌, ap}
use Rattle.clap.specs.Words.{Rule, rule_of}
use Rattle.clap.specs.declared.builder.action.ArgAction.TheVariants.{Append}
use Rattle.mds_args.proofs.WordsLemmas.{told_rule}
use Rattle.mds_args.proofs.words.with_cut.Goals as goal

pub returns : goal.returns
returns c = λ app told.
    told_rule c.with_arg.result app _ _ (ap rule_of c.action.ensures ∙ ap (λ (r : Rule). record r { action = Some Append }) (ap rule_of c.value_names.ensures ∙ ap (λ (r : Rule). record r { value_names = 3 }) c.long_argument.ensures.rule)) (c.with_arg.ensures app told)

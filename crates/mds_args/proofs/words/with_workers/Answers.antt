use Rattle.std.proofs.Common.{◌∷◌, [], ◌∙◌, ap}
use Rattle.clap.specs.Words.{Rule, rule_of}
use Rattle.mds_args.proofs.WordsLemmas.{told_rule}
use Rattle.mds_args.proofs.words.with_workers.Goals as goal

pub returns : goal.returns
returns c = λ app told.
    told_rule c.with_arg.result app _ _ (ap rule_of c.default_value.ensures ∙ ap (λ (r : Rule). record r { defaults = c.args.default.now ∷ [] }) c.number_option-workers.ensures.rule) (c.with_arg.ensures app told)

use Rattle.mds_args.proofs.WordsLemmas.{told_rule}
use Rattle.mds_args.proofs.words.with_before.Goals as goal

pub returns : goal.returns
returns c = λ app told. told_rule c.with_arg.result app _ _ c.time_option.ensures.rule (c.with_arg.ensures app told)

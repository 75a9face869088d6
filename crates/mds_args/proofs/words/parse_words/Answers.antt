use Rattle.std.proofs.Common.{ap, ◌∙◌}
use Rattle.clap.specs.Words.{kind_of}
use Rattle.mds_args.specs.Error.{kind_in}
use Rattle.mds_args.proofs.words.parse_words.Goals as goal

pub returns-in-Err-clause-err : goal.returns-in-Err-clause-err
returns-in-Err-clause-err g c =
    λ taken. ap (λ cause. kind_in (kind_of cause)) c.new.ensures ∙ ap kind_in (c.in-Err.ensures.err taken.0 taken.1)

use Rattle.std.proofs.Common.{rules}
use Rattle.mds_compact.specs.declared.cutting.Cut.{Cut}
use Rattle.mds_city.specs.Cuts.{IsCutOf}
use Rattle.mds_city.proofs.cuts.cut_of.Goals as goal

pub returns-in_err-key : goal.returns-in_err-key
returns-in_err-key c =
    let none : (cut : Cut) → IsCutOf c.args.words.now cut → ⊥ = λ cut is. c.in_err-key.ensures cut.key is.0 in
    search rules

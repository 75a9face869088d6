use Rattle.std.proofs.Common.{◌∷◌, ◌++◌, [], ℕ, List, Bool, cond, sym, subst}
use Rattle.mds_core.specs.declared.request.Request.{Request}
use Rattle.mds_compact.specs.Passes.{IsMarkingOf}
use Rattle.mds_retention.proofs.passes.mark_if.Goals as goal

pub returns-then-stays-clause-marks : goal.returns-then-stays-clause-marks
returns-then-stays-clause-marks c =
    let request = c.args.request.now in
    let Marks : Bool → Type 0 = λ stays. (from : ℕ) (old rest : List Request) (marks : List Bool) → IsMarkingOf from old (cond stays (request ∷ []) [] ++ rest) marks c.args.marking.now
    → IsMarkingOf from (old ++ cond stays (request ∷ []) []) rest (marks ++ cond stays (c.next_mark.result ∷ []) []) c.next_mark.new.self in
    subst Marks (sym c.if-stays.true) c.next_mark.ensures

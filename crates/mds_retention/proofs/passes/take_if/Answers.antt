use Rattle.std.proofs.Common.{◌∷◌, ◌++◌, [], ℕ, List, Bool, OnOk, cond, sym, subst}
use Rattle.mds_core.specs.declared.request.Request.{Request}
use Rattle.mds_compact.specs.Passes.{IsThinningOf}
use Rattle.mds_retention.proofs.passes.take_if.Goals as goal

pub returns-then-stays : goal.returns-then-stays
returns-then-stays c =
    let request = c.args.request.now in
    let Takes : Bool → Type 0 = λ stays. OnOk c.take.result ((from : ℕ) (old rest : List Request)
    → IsThinningOf from old (cond stays (request ∷ []) [] ++ rest) c.args.thinning.now → IsThinningOf from (old ++ cond stays (request ∷ []) []) rest c.take.new.self) in
    subst Takes (sym c.if-stays.true) c.take.ensures

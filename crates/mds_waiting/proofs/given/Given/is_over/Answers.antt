use Rattle.std.proofs.Common.{length, ap, ◌∙◌, arith, eq-eqb}
use Rattle.std.proofs.lemmas.List.{length-drop}
use Rattle.mds_waiting.proofs.given.Given.is_over.Goals as goal

pub returns-in_default-clause-none : goal.returns-in_default-clause-none
returns-in_default-clause-none c =
    λ e.
    let within = c.self.invariant.0 in
    let none = ap length (c.self.view_is ∙ e) in
    eq-eqb _ _ (omega (arith, length-drop c.self.inside.count c.self.inside.bytes.items))

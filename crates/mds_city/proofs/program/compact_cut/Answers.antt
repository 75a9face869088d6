use Rattle.std.proofs.Common.{List, inl, inr, refl, subst, sym}
use Rattle.std.proofs.KnownBytes.{Keeps-refl}
use Rattle.mds_commands.specs.declared.debug.DebugProblem.TheVariants.{Other}
use Rattle.mds_commands.specs.declared.problem.Problem.TheVariants.{Memory}
use Rattle.mds_compact.specs.declared.cutting.Cut.{Cut}
use Rattle.mds_city.specs.Cuts.{AreCutsOf}
use Rattle.mds_city.proofs.program.compact_cut.Goals as goal

pub returns-in-Ok : goal.returns-in-Ok
returns-in-Ok g c =
    let Are : List Cut → Type 0 = λ cuts. AreCutsOf c.args.words.now cuts in
    inl (_, record { old = refl; new = refl; before = refl; cuts = subst Are (sym c.deref.ensures.value) c.in-Ok.ensures.ok }, c.compact_judged.ensures)

pub returns-in-Err : goal.returns-in-Err
returns-in-Err g c =
    inr (elim c.tell_debug.ensures [
      | inl told ↦ (c.in-Err.problem, c.in-Err.ensures.err, Keeps-refl _, told.0, told.1)
      | inr told ↦ (Other Memory, tt, Keeps-refl _, told.1, told.2)
    ])

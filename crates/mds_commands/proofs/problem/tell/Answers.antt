use Rattle.std.proofs.Common.{List, ℕ, Option, inl, inr}
use Rattle.mds_commands.specs.declared.problem.Problem.{Problem}
use Rattle.mds_commands.specs.declared.problem.Problem.TheVariants.{Memory}
use Rattle.mds_commands.specs.declared.problem.Telling.{Telling}
use Rattle.mds_io.specs.Page.{with_newline}
use Rattle.mds_commands.specs.Problem.{IsTelling, Tells, problem_text}
use Rattle.mds_io.proofs.WriteLemmas.{front_either}
use Rattle.mds_commands.proofs.problem.tell.Goals as goal

-- a problem's line that went out, or the first of its bytes, is told
told : (a b : Option (List ℕ)) (problem : Problem) (telling : Telling) → IsTelling a b problem telling → Tells a b problem
told a b problem telling is = front_either telling.line a b (with_newline (problem_text problem)) is.1 is.2

pub returns : goal.returns
returns g c =
    let old = g.E.Write.contents c.args.faults.now in
    let new = g.E.Write.contents c.tell_whole.new.faults in
    elim c.tell_whole.ensures [
      | inl is ↦ inl (is.0, told old new c.args.problem c.tell_whole.result is)
      | inr is ↦ inr (is.0, told old new Memory c.tell_whole.result is)
    ]

use Rattle.std.proofs.Common.{◌≡◌, inl, inr, refl, subst, rules}
use Rattle.std.proofs.KnownBytes.{Keeps-refl}
use Rattle.std.specs.Io.KnownBytes.{Appends}
use Rattle.mds_io.specs.Page.{AppendsFront}
use Rattle.mds_io.proofs.WriteLemmas.{front_of_sent}
use Rattle.mds_commands.specs.declared.debug.DebugProblem.TheVariants.{Other}
use Rattle.mds_commands.specs.declared.events.EventsProblem.TheVariants.{Debug}
use Rattle.mds_commands.specs.declared.problem.Problem.TheVariants.{Memory}
use Rattle.mds_commands.proofs.events.events_to.Goals as goal

pub returns-in-Ok-write_all_of : goal.returns-in-Ok-write_all_of
returns-in-Ok-write_all_of g c =
    let old = g.W.Write.contents c.args.out.now in
    let new = g.W.Write.contents c.write_all_of.new.writer in
    let is : c.deref.result.now ≡ c.in-Ok.lines.items = search rules in
    inl (c.in-Ok.lines.items, c.in-Ok.ensures.ok, refl, subst (Appends old new) is c.in-Ok-write_all_of.ensures.ok, Keeps-refl _)

pub returns-in-Ok : goal.returns-in-Ok
returns-in-Ok g c =
    let old = g.W.Write.contents c.args.out.now in
    let new = g.W.Write.contents c.write_all_of.new.writer in
    let is : c.deref.result.now ≡ c.in-Ok.lines.items = search rules in
    let stop = c.in-Err-write_all_of.ensures.err in
    inr (inl (c.in-Ok.lines.items, c.in-Ok.ensures.ok, subst (AppendsFront old new) is (front_of_sent old new c.deref.result.now _ stop.0 stop.1), c.tell.ensures))

pub returns : goal.returns
returns g c =
    inr (inr (elim c.tell_events.ensures [
      | inl told ↦ (c.in-Err.problem, c.in-Err.ensures.err, Keeps-refl _, told.0, told.1)
      | inr told ↦ (Debug (Other Memory), tt, Keeps-refl _, told.0, told.1)
    ]))

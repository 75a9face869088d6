use Rattle.std.proofs.Common.{◌≤◌, ◌∙◌, ℕ, List, Option, length, inl, inr, refl, ap, sym, subst}
use Rattle.std.proofs.KnownBytes.{Appends-trans, Consumes-nil, Keeps-refl}
use Rattle.mds_io.specs.declared.page.PrintError.{PrintError}
use Rattle.mds_io.specs.declared.page.PrintError.TheVariants as write
use Rattle.mds_trace.specs.Input.{max_script}
use Rattle.mds_trace.specs.Printed.{PrintsFront, PrintsScript}
use Rattle.mds_trace.specs.Script.{IsScript}
use Rattle.mds_trace.specs.Walk.{Walk}
use Rattle.mds_commands.specs.Change.{change_of}
use Rattle.mds_commands.specs.Debug.{DebugsPart, FollowsFront, WalksFront}
use Rattle.mds_commands.proofs.ErrorLemmas.{passed_on}
use Rattle.mds_commands.proofs.debug.show.Goals as goal

-- what went out behind the start, by the fault
behind : (fault : PrintError) (walk : Walk) (input input_new old new : Option (List ℕ)) → WalksFront fault walk input input_new old new
    → FollowsFront fault walk input input_new old new
behind write.Device walk input input_new old new front = front
behind write.Memory walk input input_new old new front = inr front

pub returns-in_err-print_start-clause-err : goal.returns-in_err-print_start-clause-err
returns-in_err-print_start-clause-err g c =
    let front = c.in_err-print_start.ensures.err in
    passed_on _ _ _ c.from_residual.ensures.1
    (c.in_err-print_start.field-0.0, refl, inl (Consumes-nil (g.I.Read.remaining c.args.script.now), front.0, front.1, front.2))

pub returns-in_err-script-clause-err : goal.returns-in_err-script-clause-err
returns-in_err-script-clause-err g c =
    let started = g.W.Write.contents c.print_start.new.writer in
    let start = c.in_ok-print_start.ensures.ok in
    let part : DebugsPart write.Memory c.args.opened.session c.args.opened.counts (change_of (g.I.Read.remaining c.args.script.now) (g.I.Read.remaining c.read_script.new.reader)) (change_of (g.W.Write.contents c.args.out.now) started) =
    (start.0, start.1, started, start.2, inl (c.in_err-script.ensures.lost, Keeps-refl started)) in
    passed_on _ _ _ c.from_residual-in_err-script.ensures.1 (write.Memory, refl, inr part)

pub returns-in_err-commands-clause-err : goal.returns-in_err-commands-clause-err
returns-in_err-commands-clause-err g c =
    let started = g.W.Write.contents c.print_start.new.writer in
    let start = c.in_ok-print_start.ensures.ok in
    let short = subst (λ count. count ≤ max_script) (sym (sym (ap length c.deref.ensures.value) ∙ c.deref.ensures.len)) c.in_ok-script.ensures.short in
    let part : DebugsPart write.Memory c.args.opened.session c.args.opened.counts (change_of (g.I.Read.remaining c.args.script.now) (g.I.Read.remaining c.read_script.new.reader)) (change_of (g.W.Write.contents c.args.out.now) started) =
    (start.0, start.1, started, start.2, inl ((c.in_ok-script.script.bytes.items, short, c.in_ok-script.ensures.taken), Keeps-refl started)) in
    passed_on _ _ _ c.from_residual-in_err-commands.ensures.1 (write.Memory, refl, inr part)

pub returns-in_err-print_walk-clause-err : goal.returns-in_err-print_walk-clause-err
returns-in_err-print_walk-clause-err g c =
    let contents = g.W.Write.contents in
    let remaining = g.I.Read.remaining in
    let start = c.in_ok-print_start.ensures.ok in
    let commands = c.in_ok-commands.commands.items in
    let short = subst (λ count. count ≤ max_script) (sym (sym (ap length c.deref.ensures.value) ∙ c.deref.ensures.len)) c.in_ok-script.ensures.short in
    let script = subst (λ bytes. IsScript bytes commands) c.deref.ensures.value c.in_ok-commands.ensures in
    let fault = c.in_err-print_walk.field-0.0 in
    let front = subst (λ script. PrintsFront fault c.args.opened.session script (contents c.print_start.new.writer) (contents c.print_walk.new.writer)) c.deref-2.ensures.value c.in_err-print_walk.ensures.err in
    let walks : WalksFront fault c.args.opened.session (remaining c.args.script.now) (remaining c.read_script.new.reader) (contents c.print_start.new.writer) (contents c.print_walk.new.writer) =
    (c.in_ok-script.script.bytes.items, (c.in_ok-script.script.end, (c.in_ok-script.ensures.taken, short, c.in_ok-script.ensures.whole)), commands, script, front) in
    let part : DebugsPart fault c.args.opened.session c.args.opened.counts (change_of (remaining c.args.script.now) (remaining c.read_script.new.reader)) (change_of (contents c.args.out.now) (contents c.print_walk.new.writer)) =
    (start.0, start.1, contents c.print_start.new.writer, start.2, behind fault c.args.opened.session (remaining c.args.script.now) (remaining c.read_script.new.reader) _ _ walks) in
    passed_on _ _ _ c.from_residual-in_err-print_walk.ensures.1 (fault, refl, inr part)

pub returns-clause-ok : goal.returns-clause-ok
returns-clause-ok g c =
    let start = c.in_ok-print_start.ensures.ok in
    let walk = c.in_ok-print_walk.ensures.ok in
    let commands = c.in_ok-commands.commands.items in
    let to = c.print_walk.new.session.place in
    let short = subst (λ count. count ≤ max_script) (sym (sym (ap length c.deref.ensures.value) ∙ c.deref.ensures.len)) c.in_ok-script.ensures.short in
    let script = subst (λ bytes. IsScript bytes commands) c.deref.ensures.value c.in_ok-commands.ensures in
    let printed = subst (λ script. PrintsScript c.args.opened.session script to walk.0) c.deref-2.ensures.value walk.1 in (
      c.in_ok-script.script.bytes.items,
      (c.in_ok-script.script.end, (c.in_ok-script.ensures.taken, short, c.in_ok-script.ensures.whole)),
      (start.0, commands, to, walk.0, start.1, script, printed, Appends-trans _ _ _ _ _ start.2 walk.2),
    )

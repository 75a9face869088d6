use Rattle.std.proofs.Common.{sym, subst, IfErr, ◌∙◌}
use Rattle.std.specs.Prelude.{OnOk}
use Rattle.mds_lines.specs.Stream.{HasLineItems, HasLineFault}
use Rattle.mds_lines.specs.LineReading.{AreRead}
use Rattle.mds_lines.proofs.FeedLemmas.{faulty_now, same_bytes, kept_fault, kept_items}
use Rattle.mds_lines.proofs.line_reader.LineReader.finish.Goals as goal

pub returns-in-Some-clause-fault : goal.returns-in-Some-clause-fault
returns-in-Some-clause-fault g c =
    faulty_now c.args.self.bytes c.in-Some.fault (kept_fault _ c.args.self _ c.in-Some.fault _ _ _ c.self.view_is c.in-Some.is c.self.invariant)

pub returns-clause-taken : goal.returns-clause-taken
returns-clause-taken g c = λ before items has took.
    let lines = c.self.inside.lines in
    let read = kept_items _ c.args.self _ _ _ _ items c.self.view_is c.in_default.is c.self.invariant has in
    let next = c.take_last.ensures.taken items (subst (λ bytes. AreRead bytes lines.ended lines.count lines.taken items) (sym c.as_slice.ensures.value) read) in
    let is = c.as_slice.ensures.value ∙ same_bytes _ c.args.self c.self.view_is in
    (next.0, next.1 before took, subst (λ bytes. OnOk c.take_last.result (HasLineItems bytes next.0)) is next.2)

pub returns-clause-fault : goal.returns-clause-fault
returns-clause-fault g c =
    subst (λ bytes. IfErr c.take_last.result (HasLineFault bytes)) (c.as_slice.ensures.value ∙ same_bytes _ c.args.self c.self.view_is) c.take_last.ensures.fault

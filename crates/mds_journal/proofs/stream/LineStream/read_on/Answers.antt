use Rattle.std.proofs.Common.{◌≡◌, ◌+◌, ◌-◌, length, take, drop, sym, subst, ap, ◌∙◌, rules, arith, length-drop}
use Rattle.std.proofs.lemmas.List.{with_items_is, places}
use Rattle.std.specs.Io.KnownBytes.{Keeps, prepend_known}
use Rattle.mds_journal.proofs.StreamLemmas.{kept_given, held_and_given}
use Rattle.mds_journal.proofs.ReadingLemmas.{both_held}
use Rattle.mds_journal.proofs.stream.LineStream.read_on.Goals as goal

pub returns-in-Some-clause-kept : goal.returns-in-Some-clause-kept
returns-in-Some-clause-kept g c =
    let old = c.args.self.now in
    let remaining = g.R.Read.remaining in
    let held = drop old.next old.bytes.items in
    let at = c.len.result - old.next in
    let size : length held ≡ at = omega (arith, c.len.ensures, length-drop old.next old.bytes.items) in
    let filled = c.read_behind.new.bytes in
    let given = take c.in-Some.count (drop at filled) in
    let joined = both_held c.deref.result.now old.bytes.items c.in-Ok.bytes.items _ old.next c.deref.ensures.value c.in-Ok.ensures in
    let front : take at filled ≡ take at c.in-Ok.bytes.items = c.read_behind.ensures.front ∙ ap (λ l. take at l) c.as_mut_slice.ensures.value in
    let left : c.truncate.new.self.items ≡ take (at + c.in-Some.count) filled =
    c.truncate.ensures.items ∙ ap (λ l. take (at + c.in-Some.count) l) (with_items_is c.in-Ok.bytes filled (search (rules, places))) in
    let cut = held_and_given held _ c.in-Ok.bytes.items filled c.truncate.new.self.items at c.in-Some.count size joined front left in
    subst (λ l. Keeps (prepend_known held (remaining old.reader)) (prepend_known l (remaining c.read_behind.new.reader))) (sym cut)
    (kept_given (remaining old.reader) (remaining c.read_behind.new.reader) held given c.in-Some.ensures.given)

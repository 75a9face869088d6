use Rattle.std.proofs.Common.{◌≡◌, ◌+◌, ◌-◌, ◌≤◌, ◌++◌, ℕ, List, length, take, drop, sym, subst, ◌∙◌, arith, length-drop}
use Rattle.mds_journal.specs.Opening.{AreLines, GoesOn}
use Rattle.mds_journal.proofs.ReadingLemmas.{more_ahead, both_held}
use Rattle.mds_journal.proofs.opening.Opening.read_on.Goals as goal

pub returns-in-Ok-join-clause-reading : goal.returns-in-Ok-join-clause-reading
returns-in-Ok-join-clause-reading g c = record {
  usable = c.in-Ok.ensures.usable;
  short = c.requires.reading.short;
  counted = c.requires.reading.counted;
  limit = c.requires.reading.limit;
  begins = omega arith;
  read = λ is.
      let old = c.args.self.now in
      let read = c.requires.reading.read (c.read_at.ensures.was_true is) in
      let untouched = c.read_at.ensures.untouched is in
      let file = g.D.Device.seen old.device in
      let held = drop old.next old.bytes.items in
      let at = old.end + (c.len.result - old.next) in
      let place : at ≡ old.end + length held = omega (arith, c.len.ensures, length-drop old.next old.bytes.items) in
      let more = more_ahead file old.end held read.ahead at c.in-Ok.count _ _ place (c.in-Ok.ensures.read is) in
      let both : c.in-Ok-join.bytes.items ≡ held ++ take c.in-Ok.count c.read_at.new.buffer =
      both_held c.deref.result.now old.bytes.items c.in-Ok-join.bytes.items (take c.in-Ok.count c.read_at.new.buffer) old.next c.deref.ensures.value c.in-Ok-join.ensures in
      record {
        durable = λ f left. read.durable f (untouched.outcomes f left) ∙ sym untouched.file;
        within = subst (λ (l : List ℕ). old.end ≤ length l) (sym untouched.file) read.within;
        lines = subst (λ (l : List ℕ). AreLines (take old.end l)) (sym untouched.file) read.lines;
        ahead = subst (λ (l : List ℕ). GoesOn l old.end c.in-Ok-join.bytes.items) (sym untouched.file) (subst (λ (l : List ℕ). GoesOn file old.end l) (sym both) more);
      };
}

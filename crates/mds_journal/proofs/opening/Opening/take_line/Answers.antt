use Rattle.std.proofs.Common.{◌+◌, ℕ, List, ◌∷◌, drop, not, sym, ap, subst, ◌∙◌, arith, drop-drop}
use Rattle.mds_journal.specs.Lines.{recovered_texts}
use Rattle.mds_journal.specs.Opening.{GoesOn}
use Rattle.mds_journal.proofs.ReadingLemmas.{next_recovered, next_within, next_lines, next_ahead, line_taken}
use Rattle.mds_journal.proofs.opening.Opening.take_line.Goals as goal

pub returns-clause-reading : goal.returns-clause-reading
returns-clause-reading g c = record {
  usable = c.requires.reading.usable;
  short = omega (arith, c.if-self-size-gt-MAX_BYTES.false);
  counted = omega (arith, c.requires.reading.counted);
  limit = c.requires.reading.limit;
  begins = omega (arith, c.requires.room);
  read = λ is.
      let old = c.args.self.now in
      let read = c.requires.reading.read is in
      let file = g.D.Device.seen old.device in
      let held = drop old.next old.bytes.items in
      record {
        durable = read.durable;
        within = next_within file old.end held read.ahead c.args.size c.requires.found;
        lines = next_lines file old.end held read.ahead c.args.size c.requires.found read.lines;
        ahead = subst (λ (l : List ℕ). GoesOn file (old.end + (c.args.size + 2)) l) (drop-drop (c.args.size + 2) old.next old.bytes.items)
            (next_ahead file old.end held read.ahead c.args.size c.requires.found);
      };
}

pub returns-clause-line : goal.returns-clause-line
returns-clause-line g c = λ is.
    let old = c.args.self.now in
    let read = c.requires.reading.read is in
    let file = g.D.Device.seen old.device in
    let held = drop old.next old.bytes.items in
    let line = line_taken c.deref.result.now old.bytes.items c.clear.new.self.items c.extend_from_slice.new.self.items old.next c.args.size _
    c.deref.ensures.value c.clear.ensures.items (c.is_err.ensures.negation ∙ ap not c.if-is_err.false) c.extend_from_slice.ensures.items in
    next_recovered file old.end held read.ahead c.args.size c.requires.found ∙ ap (λ (text : List ℕ). text ∷ recovered_texts (drop (old.end + (c.args.size + 2)) file)) (sym line)

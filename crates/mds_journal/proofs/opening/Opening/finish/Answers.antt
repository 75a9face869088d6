use Rattle.std.proofs.Common.{◌≡◌, false, ℕ, ◌+◌, List, sym, ap, subst, ◌∙◌, arith}
use Rattle.mds_journal.specs.Lines.{recovered_texts, at_rest}
use Rattle.mds_journal.specs.Journal.{IsKept}
use Rattle.mds_journal.proofs.LineLemmas.{texts_have_no_feed}
use Rattle.mds_journal.proofs.AppendLemmas.{ready_at}
use Rattle.mds_journal.proofs.RepairLemmas.{end_is, kept_rest}
use Rattle.mds_journal.proofs.opening.Opening.finish.Goals as goal

pub returns-then-size-end-clause-damaged : goal.returns-then-size-end-clause-damaged
returns-then-size-end-clause-damaged g c = λ damaged is short.
    let was = c.size.ensures.was_true is in
    let read = c.requires.reading.read was in
    let place = end_is (g.D.Device.seen c.args.self.device) c.args.self.end read.within read.lines (c.requires.done was) in
    omega (arith, short, c.if-size-end.true, c.in-Ok.ensures.size is, place)

pub returns-in-Ok-close_end-clause-sound : goal.returns-in-Ok-close_end-clause-sound
returns-in-Ok-close_end-clause-sound g c = record {
  short = c.requires.reading.short;
  usable = λ go. c.in-Ok-close_end.ensures.usable;
  ready = λ go is.
      let then = c.close_end.ensures.was_true is in
      let was = c.size.ensures.was_true then in
      let read = c.requires.reading.read was in
      let file = g.D.Device.seen c.args.self.device in
      let texts = recovered_texts file in
      let new = g.D.Device.seen c.close_end.new.device in
      let rest : new ≡ at_rest texts = c.in-Ok-close_end.ensures.at_rest is ∙ ap (λ (l : List ℕ). at_rest (recovered_texts l)) (c.size.ensures.untouched then).file in
      let kept : IsKept texts new = subst (λ (l : List ℕ). IsKept texts l) (sym rest) (kept_rest texts) in
      ready_at g.D.Device.seen g.D.Device.may_leave texts (record { device = c.close_end.new.device; end = c.args.self.end; room = c.args.self.end + 1; is_lost = false }) (texts_have_no_feed file)
      (end_is file c.args.self.end read.within read.lines (c.requires.done was)) kept
      (λ f left. subst (λ (l : List ℕ). IsKept texts l) (sym (c.in-Ok-close_end.ensures.durable is f left)) kept);
}

pub returns-in-Ok-close_end-clause-short : goal.returns-in-Ok-close_end-clause-short
returns-in-Ok-close_end-clause-short g c = λ is.
    let then = c.close_end.ensures.was_true is in
    let was = c.size.ensures.was_true then in
    let read = c.requires.reading.read was in
    let place = end_is (g.D.Device.seen c.args.self.device) c.args.self.end read.within read.lines (c.requires.done was) in
    omega (arith, c.if-size-end.false, c.in-Ok.ensures.size then, place)

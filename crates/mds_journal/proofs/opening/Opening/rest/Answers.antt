use Rattle.std.proofs.Common.{◌≡◌, ◌+◌, ◌≤◌, ◌++◌, ℕ, List, length, take, drop, refl, sym, ap, subst, ◌∙◌, arith}
use Rattle.std.proofs.lemmas.Bool.{cond-true}
use Rattle.mds_journal.specs.Opening.{AreLines, GoesOn}
use Rattle.mds_journal.proofs.ReadingLemmas.{all_ahead, more_ahead}
use Rattle.mds_journal.proofs.opening.Opening.rest.Goals as goal

-- nothing was read yet
pub reads-init : goal.reads-init
reads-init g c =
    let file = g.D.Device.seen c.args.self.now.device in
    let at = c.args.self.now.end in
    record {
      reading = c.requires;
      place = refl;
      limit = refl;
      number = refl;
      ahead = λ is. record { rest = drop at file; split = ap (λ (l : List ℕ). l ++ drop at file) (sym c.new-rest.ensures.items) };
      untouched = λ is. record { file = refl; outcomes = λ f left. left; time = refl; past = λ t f was. was };
      was_true = λ is. is;
      later = omega arith;
    }

-- the end of the file was read
pub returns-then-count-eq0-clause-rest : goal.returns-then-count-eq0-clause-rest
returns-then-count-eq0-clause-rest g c is =
    let own = c.reads.self in
    let file = g.D.Device.seen own.device in
    let before = c.read_at.ensures.was_true is in
    let held = c.reads.rest.items in
    let at = own.end + c.len-in-reads.result in
    let place : at ≡ own.end + length held = omega (arith, c.len-in-reads.ensures) in
    let all = all_ahead file own.end held (c.reads.invariant.ahead before) at c.in-Ok.count _ _ place c.if-count-eq0.true (omega arith) (c.in-Ok.ensures.read is) in
    sym all
    ∙ ap (λ (n : ℕ). drop n file) c.reads.invariant.place
    ∙ ap (λ (l : List ℕ). drop c.args.self.now.end l) (c.reads.invariant.untouched before).file

-- more was
pub reads-preserved : goal.reads-preserved
reads-preserved g c =
    let own = c.reads.self in
    let file = g.D.Device.seen own.device in
    let held = c.reads.rest.items in
    let at = own.end + c.len-in-reads.result in
    let was = c.reads.invariant in
    record {
      reading = record {
        usable = c.in-Ok.ensures.usable;
        short = was.reading.short;
        counted = was.reading.counted;
        limit = was.reading.limit;
        begins = was.reading.begins;
        read = λ is.
            let read = was.reading.read (c.read_at.ensures.was_true is) in
            let untouched = c.read_at.ensures.untouched is in
            record {
              durable = λ f left. read.durable f (untouched.outcomes f left) ∙ sym untouched.file;
              within = subst (λ (l : List ℕ). own.end ≤ length l) (sym untouched.file) read.within;
              lines = subst (λ (l : List ℕ). AreLines (take own.end l)) (sym untouched.file) read.lines;
              ahead = subst (λ (l : List ℕ). GoesOn l own.end (drop own.next own.bytes.items)) (sym untouched.file) read.ahead;
            };
      };
      place = was.place;
      limit = was.limit;
      number = was.number;
      ahead = λ is.
          let place : at ≡ own.end + length held = omega (arith, c.len-in-reads.ensures) in
          let more = more_ahead file own.end held (was.ahead (c.read_at.ensures.was_true is)) at c.in-Ok.count _ _ place (c.in-Ok.ensures.read is) in
          let now = subst (λ (l : List ℕ). GoesOn l own.end (held ++ take c.in-Ok.count c.read_at.new.buffer)) (sym (c.read_at.ensures.untouched is).file) more in
          let all : c.extend_from_slice.new.self.items ≡ held ++ take c.in-Ok.count c.read_at.new.buffer =
          c.extend_from_slice.ensures.items ∙ cond-true _ _ _ c.if-is_err.ensures.negation in
          subst (λ (l : List ℕ). GoesOn (g.D.Device.seen c.read_at.new.self) own.end l) (sym all) now;
      untouched = λ is.
          let before = c.read_at.ensures.was_true is in
          let one = was.untouched before in
          let two = c.read_at.ensures.untouched is in
          record {
            file = two.file ∙ one.file;
            outcomes = λ f left. one.outcomes f (two.outcomes f left);
            time = two.time ∙ one.time;
            past = λ t f w. one.past t f (two.past t f w);
          };
      was_true = λ is. was.was_true (c.read_at.ensures.was_true is);
      later = omega (arith, was.later, c.in-Ok.ensures.cause.later);
    }

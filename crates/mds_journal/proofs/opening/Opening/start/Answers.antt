use Rattle.std.proofs.Common.{ℕ, List, [], ◌++◌, refl, sym, ap, ◌∙◌, arith}
use Rattle.std.proofs.lemmas.List.Elements.{All-nil}
use Rattle.mds_journal.specs.Lines.{HasNoFeed}
use Rattle.mds_journal.proofs.opening.Opening.start.Goals as goal

pub returns-in-Ok-clause-reading : goal.returns-in-Ok-clause-reading
returns-in-Ok-clause-reading g c = record {
  usable = c.in-Ok.ensures.usable;
  short = omega arith;
  counted = omega arith;
  limit = c.requires.limit;
  begins = omega arith;
  read = λ is.
      let file = g.D.Device.seen c.sync.new.self in
      record {
        durable = λ f left. c.in-Ok.ensures.durable is f left ∙ sym (c.in-Ok.ensures.seen is);
        within = omega arith;
        lines = record { texts = []; none = All-nil HasNoFeed; split = refl };
        ahead = record { rest = file; split = ap (λ (l : List ℕ). l ++ file) (sym c.new.ensures.items) };
      };
}

use Rattle.std.proofs.Common.{◌∙◌, ◌-◌, ◌++◌, length, ap, sym, arith, length-append}
use Rattle.std.proofs.KnownBytes.{Consumes-trans}
use Rattle.mds_io.proofs.ReadLemmas.{stop_loses}
use Rattle.std.proofs.lemmas.Result.{on_ok_weaker}
use Rattle.mds_trace.specs.Feeding.{Feeding}
use Rattle.mds_commands.proofs.FedLemmas.{Feeds, piece_fed, end_fed, fed_file}
use Rattle.mds_commands.proofs.stream.feed_all.Goals as goal

pub returns-then-branch-clause-fed : goal.returns-then-branch-clause-fed
returns-then-branch-clause-fed g c =
    let before = c.loop-left.invariant.fed in
    end_fed _ _ _ before.0 _ _ c.loop-left.left c.loop-left.replay.stream before.1 before.2 c.clear.ensures.items c.in_ok-read_more.ensures.ok (rw c.if-branch.true at c.in_ok-read_more.ensures.end) before.3

pub loop-left-preserved : goal.loop-left-preserved
loop-left-preserved g c =
    let before = c.loop-left.invariant.fed in
    let feeds : Feeds c.loop-left.replay.stream c.feed.new.self.stream c.deref.result.now c.feed.result = record {
      fed = on_ok_weaker c.feed.result (λ is. ap (λ (seen : Feeding). seen.stream) is) c.feed.ensures.fed;
      whole = c.feed.ensures.whole;
      fault = c.feed.ensures.fault;
      kept = c.feed.ensures.kept;
      again = λ fault is. let told = c.feed.ensures.again fault is in (told.0, ap (λ (seen : Feeding). seen.stream) told.1);
    } in
    record {
      fed = piece_fed _ _ _ before.0 _ _ c.loop-left.left _ _ _ c.feed.result before.1 before.2 c.clear.ensures.items c.in_ok-read_more.ensures.ok
          (ap (λ n. c.loop-left.left - n) (c.len-left.ensures ∙ sym (sym (ap length c.deref.ensures.value) ∙ c.deref.ensures.len))) (rw c.deref.ensures.value at feeds) before.3;
      tables = c.feed.ensures.tables ∙ c.loop-left.invariant.tables;
      opening = c.feed.ensures.opening ∙ c.loop-left.invariant.opening;
      counted = omega (arith, c.loop-left.invariant.counted, c.in_ok-read_more.ensures.counted);
    }

pub returns-in_err-read_more-clause-no_further : goal.returns-in_err-read_more-clause-no_further
returns-in_err-read_more-clause-no_further g c =
    let before = c.loop-left.invariant.fed in
    let here = c.loop-left in
    let lost = stop_loses c.in_err-read_more.field-0.0 _ (here.left - length c.clear.new.self.items) (g.R.Read.remaining here.reader)
    (g.R.Read.remaining c.read_more.new.reader) c.clear.new.self.items c.read_more.new.bytes.items c.in_err-read_more.ensures.err in
    (before.0 ++ lost.0, rw length-append (omega (arith, before.2, lost.1)), Consumes-trans _ _ _ before.0 lost.0 before.1 lost.2)

pub returns-clause-fed : goal.returns-clause-fed
returns-clause-fed g c =
    let before = c.loop-left.invariant.fed in
    fed_file _ _ before.0 c.loop-left.left c.loop-left.replay.stream before.1 before.2 (λ more. let none : ⊥ = omega (arith, more, c.loop-left-test.false) in absurd none) before.3

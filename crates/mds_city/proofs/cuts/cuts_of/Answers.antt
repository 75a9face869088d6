use Rattle.std.proofs.Common.{List, subst, rules}
use Rattle.std.proofs.lemmas.List.{take_all}
use Rattle.mds_args.specs.declared.cuts.CutWords.{CutWords}
use Rattle.mds_city.specs.Cuts.{AreCutsOf}
use Rattle.mds_city.proofs.CutLemmas.{cuts_next, none_at}
use Rattle.mds_city.proofs.cuts.cuts_of.Goals as goal

pub returns-in_default-clause-err : goal.returns-in_default-clause-err
returns-in_default-clause-err c = none_at c.args.words.now c.loop-one.one-index _ c.loop-one-test.true c.in_default.ensures

pub loop-one-preserved : goal.loop-one-preserved
loop-one-preserved c =
    cuts_next c.args.words.now c.loop-one.one-index _ c.loop-one-test.true c.loop-one.cuts.items c.push.new.self.items c.in-Some.cut (search rules) c.loop-one.invariant c.in-Some.ensures

pub returns-clause-ok : goal.returns-clause-ok
returns-clause-ok c =
    let Words : List CutWords → Type 0 = λ all. AreCutsOf all c.loop-one.cuts.items in
    subst Words (take_all c.loop-one.one-index c.args.words.now c.loop-one-test.false) c.loop-one.invariant

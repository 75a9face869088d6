use Rattle.std.proofs.Common.{inl, inr}
use Rattle.std.proofs.lemmas.Option.{none-some, same_Some}
use Rattle.mds_waiting.proofs.PeerLemmas.{parts_join, stays_last, stays_or_is, still_all, takes_of_join}
use Rattle.mds_waiting.proofs.leaving.Leaving.look.Goals as goal

pub returns-in-Some-clause-sent : goal.returns-in-Some-clause-sent
returns-in-Some-clause-sent g c = parts_join _ _ _ c.args.bytes.now _ _ _ c.loop.invariant.sent c.in-Some.ensures.sent

pub returns-in-Some-clause-thrown : goal.returns-in-Some-clause-thrown
returns-in-Some-clause-thrown g c = λ was other. takes_of_join _ _ _ _ _ _ (c.loop.invariant.thrown was)
    (c.in-Some.ensures.thrown (stays_last _ _ _ was c.loop.invariant.part) (λ same. other (same_Some _ _ same)))

pub loop-preserved : goal.loop-preserved
loop-preserved g c = record {
  sent = parts_join _ _ _ c.args.bytes.now _ _ _ c.loop.invariant.sent c.look_once.ensures.sent;
  part = stays_or_is _ _ _ _ c.loop.invariant.part c.look_once.ensures.part;
  thrown = λ was. takes_of_join _ _ _ _ _ _ (c.loop.invariant.thrown was)
      (c.in_default.ensures.thrown (stays_last _ _ _ was c.loop.invariant.part) (λ same. absurd (none-some _ same)));
  last = λ is. elim (c.look_once.ensures.last is) [
    | inl was ↦ still_all _ _ _ (c.loop.invariant.last was) c.look_once.ensures.sent.0
    | inr all ↦ inr all
  ];
}

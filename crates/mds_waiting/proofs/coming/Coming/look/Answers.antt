use Rattle.std.proofs.Common.{arith, ◌∙◌}
use Rattle.std.proofs.KnownBytes.{Keeps-trans}
use Rattle.std.proofs.lemmas.Option.{none-some, same_Some}
use Rattle.mds_waiting.proofs.PeerLemmas.{grows_then, stays_or_is}
use Rattle.mds_waiting.proofs.coming.Coming.look.Goals as goal

pub returns-in-Some-clause-grows : goal.returns-in-Some-clause-grows
returns-in-Some-clause-grows g c = λ other.
    grows_then _ _ _ _ _ _ c.loop.invariant.grows (c.in-Some.ensures.grows (λ same. other (same_Some _ _ same)))

pub returns-in-Some-clause-sent : goal.returns-in-Some-clause-sent
returns-in-Some-clause-sent g c = Keeps-trans _ _ _ c.loop.invariant.sent c.look_once.ensures.sent

pub loop-preserved : goal.loop-preserved
loop-preserved g c = record {
  grows = grows_then _ _ _ _ _ _ c.loop.invariant.grows (c.in_default.ensures.grows (λ same. absurd (none-some _ same)));
  sent = Keeps-trans _ _ _ c.loop.invariant.sent c.look_once.ensures.sent;
  bound = omega (arith, c.loop.invariant.bound, c.look_once.ensures.bound);
  part = stays_or_is _ _ _ _ c.loop.invariant.part c.look_once.ensures.part;
  room = c.look_once.ensures.room ∙ c.loop.invariant.room;
}

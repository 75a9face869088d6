use Rattle.std.proofs.KnownBytes.{Keeps-refl}
use Rattle.mds_waiting.proofs.PeerLemmas.{grows_not, whole_anyway}
use Rattle.mds_waiting.proofs.coming.Coming.look_once.Goals as goal

pub returns-then-asked-eq0-clause-whole : goal.returns-then-asked-eq0-clause-whole
returns-then-asked-eq0-clause-whole g c =
    whole_anyway c.judge_last.result _ _ (rw c.deref.ensures.value at c.judge_last.ensures.whole)

pub returns-then-asked-eq0-clause-grows : goal.returns-then-asked-eq0-clause-grows
returns-then-asked-eq0-clause-grows g c = λ other. rw c.judge_last.ensures.peer (grows_not _ _)

pub returns-then-asked-eq0-clause-sent : goal.returns-then-asked-eq0-clause-sent
returns-then-asked-eq0-clause-sent g c = rw c.judge_last.ensures.peer (Keeps-refl _)

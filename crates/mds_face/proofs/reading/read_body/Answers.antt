use Rattle.mds_io.proofs.ReadLemmas.{gains_lose, stop_loses}
use Rattle.mds_face.proofs.ReadingLemmas.{grows_none, head_enough, loses_none, complete_enough, complete_stays, reach_stays}
use Rattle.mds_face.proofs.reading.read_body.Goals as goal

pub returns-in_default : goal.returns-in_default
returns-in_default g c = record {
  status = c.requires.status;
  enough = head_enough _ _ _ c.requires.status.head c.requires.partial c.in_default.not-Complete;
  grown = grows_none _ _;
  lost = loses_none _ _;
  turns = λ stopped. cc;
}

pub returns-in_err-read_up_to-clause-lost : goal.returns-in_err-read_up_to-clause-lost
returns-in_err-read_up_to-clause-lost g c = rw c.in-Complete.is (stop_loses _ _ _ _ _ _ _ c.in_err-read_up_to.ensures.err)

pub returns-clause-status : goal.returns-clause-status
returns-clause-status g c =
    record {
      head = rw c.in-Complete.is (complete_stays _ _ _ _ _ _ _ _ (rw c.in-Complete.is at c.requires.status.head) c.in_ok-read_up_to.ensures.ok);
      in_reach = reach_stays _ _ _ _ _ _ c.requires.status.in_reach c.in_ok-read_up_to.ensures.ok;
    }

pub returns-clause-enough : goal.returns-clause-enough
returns-clause-enough g c =
    complete_enough _ _ _ _ _ _ _ _ (rw c.in-Complete.is at c.requires.status.head) c.in_ok-read_up_to.ensures.ok c.in_ok-read_up_to.ensures.whole

pub returns-clause-lost : goal.returns-clause-lost
returns-clause-lost g c = rw c.in-Complete.is (gains_lose _ _ _ _ _ c.in_ok-read_up_to.ensures.ok)

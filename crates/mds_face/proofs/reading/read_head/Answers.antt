use Rattle.std.proofs.Common.{rules}
use Rattle.mds_io.specs.Read.{ConsumesUpTo}
use Rattle.mds_io.proofs.ReadLemmas.{stop_loses}
use Rattle.mds_face.proofs.ReadingLemmas.{gains_few, has_status, loses_next, read_next}
use Rattle.mds_face.proofs.reading.read_head.Goals as goal

pub loop-reader-preserved : goal.loop-reader-preserved
loop-reader-preserved g c =
    let gains = c.in_ok-read_more.ensures.ok in record {
      taken = read_next _ _ _ _ _ _ c.loop-reader.invariant.taken gains;
      few = gains_few _ _ _ _ _ c.loop-reader.invariant.few gains;
    }

pub returns-in_err-read_more-clause-lost : goal.returns-in_err-read_more-clause-lost
returns-in_err-read_more-clause-lost g c =
    let lost : ConsumesUpTo 16384 (g.R.Read.remaining c.args.reader.now) (g.R.Read.remaining c.read_more.new.reader) =
    loses_next _ _ _ _ _ c.loop-reader.invariant.few c.loop-reader.invariant.taken (stop_loses _ _ _ _ _ _ _ c.in_err-read_more.ensures.err) in
    search rules

pub returns-then-branch-clause-status : goal.returns-then-branch-clause-status
returns-then-branch-clause-status g c = has_status c.deref.ensures.value c.head_status.ensures.status c.head_status.ensures.in_reach

pub returns-then-branch-clause-taken : goal.returns-then-branch-clause-taken
returns-then-branch-clause-taken g c = read_next _ _ _ _ _ _ c.loop-reader.invariant.taken c.in_ok-read_more.ensures.ok

pub returns-then-branch-clause-few : goal.returns-then-branch-clause-few
returns-then-branch-clause-few g c = gains_few _ _ _ _ _ c.loop-reader.invariant.few c.in_ok-read_more.ensures.ok

pub returns-then-not-matches-clause-status : goal.returns-then-not-matches-clause-status
returns-then-not-matches-clause-status g c = has_status c.deref-in-loop-reader.ensures.value c.head_status-status.ensures.status c.head_status-status.ensures.in_reach

pub returns-clause-status : goal.returns-clause-status
returns-clause-status g c = has_status c.deref-2.ensures.value c.head_status-2.ensures.status c.head_status-2.ensures.in_reach

use Rattle.mds_follow.specs.Pieces.{texts_in}
use Rattle.mds_follow.proofs.EndLemmas.{tells_none}
use Rattle.mds_follow.proofs.end.requests_of.Goals as goal

-- one of them tells no request, so no requests are told
pub returns-in-Err-BadLine-clause-none : goal.returns-in-Err-BadLine-clause-none
returns-in-Err-BadLine-clause-none c =
    let read = rw c.in-Err-BadLine.field-0-is at c.in-Err-BadLine.ensures in
    tells_none (texts_in c.args.texts.now) _ read

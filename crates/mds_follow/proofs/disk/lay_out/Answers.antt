use Rattle.std.proofs.Common.{sym, subst}
use Rattle.std.specs.List.{All}
use Rattle.std.proofs.lemmas.List.Elements.{All-push}
use Rattle.mds_check.specs.Form.{IsText}
use Rattle.mds_follow.proofs.Disks.{told_next}
use Rattle.mds_follow.proofs.disk.lay_out.Goals as goal

-- a line more tells a request more
pub loop-request-preserved : goal.loop-request-preserved
loop-request-preserved c =
    let one = c.in_ok-lay_out_one.ensures.told in
    let was = c.loop-request.invariant in
    record {
      tells = told_next c.loop-request.group c.lay_out_one.new.group c.args.requests.now c.loop-request.request-index c.request-item.result one.0 was.tells
          c.loop-request-test.true one.1 one.2 c.request-item.is;
      texts = subst (All IsText) (sym one.1) (All-push IsText c.loop-request.group one.0 was.texts one.3);
    }

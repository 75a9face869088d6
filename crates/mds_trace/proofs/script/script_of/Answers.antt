use Rattle.std.proofs.Common.{◌≢◌, [], rules}
use Rattle.mds_trace.proofs.ScriptLemmas.{one_read}
use Rattle.mds_trace.proofs.script.script_of.Goals as goal

pub loop-rest-preserved : goal.loop-rest-preserved
loop-rest-preserved c =
    let some : c.loop-rest.rest.now ≢ [] = search rules in
    rw c.in_ok-push.ensures.items (one_read c.args.bytes.now c.loop-rest.rest.now c.loop-rest.script.items c.first_line.result.0.now
    c.first_line.result.1.now c.of_line.result c.loop-rest.invariant some c.first_line.ensures.first c.of_line.ensures)

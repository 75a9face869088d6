use Rattle.std.proofs.Common.{◌≡◌, ◌++◌, List, [], drop}
use Rattle.mds_core.specs.declared.request.Request.{Request}
use Rattle.mds_core.specs.declared.reply.Reply.{Reply}
use Rattle.mds_core.specs.Run.{IsRun}
use Rattle.mds_core.proofs.runs.run.Given as goal

-- whatever run goes on from here with what is left is, behind the replies so far, a run of the whole list
abbrev pub invariant-loop-request : goal.invariant-loop-request
invariant-loop-request l = record {
  tables : l.fleet.tables ≡ l.fn.tables;
  run : (more : List Reply) (new : List Request) → IsRun l.fn.tables l.fleet.history (drop l.request-index l.requests) more new
      → IsRun l.fn.tables [] l.requests (l.replies.items ++ more) new;
}

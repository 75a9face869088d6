use Rattle.std.proofs.Common.{◌≡◌, ◌++◌, take}
use Rattle.mds_follow.specs.Record.{recorded_at}
use Rattle.mds_follow.proofs.desk.note.Given as goal

-- the requests so far stand behind the others
abbrev pub invariant-loop-request : goal.invariant-loop-request
invariant-loop-request g l = l.keeper ≡ l.fn.keeper ++ recorded_at (g.F.Tagged.tag l.fn.file) (take l.request-index l.fn.group)

use Rattle.std.proofs.Common.{take}
use Rattle.std.specs.List.{All, AllZip}
use Rattle.mds_check.specs.Form.{IsText}
use Rattle.mds_entries.specs.Entry.{Tells}
use Rattle.mds_follow.proofs.disk.lay_out.Given as goal

-- the lines so far tell the requests so far, and none is as long as a check
abbrev pub invariant-loop-request : goal.invariant-loop-request
invariant-loop-request l = record {
  tells : AllZip Tells l.group (take l.request-index l.fn.requests);
  texts : All IsText l.group;
}

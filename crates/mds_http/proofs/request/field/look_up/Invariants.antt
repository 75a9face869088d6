use Rattle.std.proofs.Common.{map, take}
use Rattle.httparse.specs.Spans.{header_bytes}
use Rattle.mds_http.specs.Head.{values_of}
use Rattle.mds_http.specs.Fields.{AreFieldValues}
use Rattle.mds_http.proofs.request.field.look_up.Given as goal

-- what the fields so far give
abbrev pub invariant-loop-header : goal.invariant-loop-header
invariant-loop-header l = AreFieldValues (values_of l.name (map (header_bytes l.bytes) (take l.header-index l.headers))) l.found

use Rattle.std.proofs.Common.{map, take, sym, subst}
use Rattle.httparse.specs.Spans.{header_bytes}
use Rattle.mds_http.specs.Head.{values_of}
use Rattle.mds_http.specs.Fields.{AreFieldValues}
use Rattle.mds_http.proofs.FieldLemmas.{headers_more}
use Rattle.mds_http.proofs.request.field.look_up.Goals as goal

pub loop-header-preserved : goal.loop-header-preserved
loop-header-preserved c =
    let i = c.loop-header.header-index in
    let headers = c.args.headers.now in
    let bytes = header_bytes c.args.bytes.now in
    subst (λ fields. AreFieldValues (values_of c.args.name.now fields) c.with_field-found.result) (sym (headers_more bytes headers i _ c.loop-header-test.true))
    (c.with_field-found.ensures (map bytes (take i headers)) c.loop-header.invariant)

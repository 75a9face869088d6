use Rattle.std.proofs.Common.{refl}
use Rattle.mds_http.proofs.response.head.whole_answer.Goals as goal

pub returns : goal.returns
returns c =
    rw (c.into_bytes.ensures.value, c.in_ok-insert_str.ensures.bytes, c.deref.ensures, c.in_ok-head.ensures, c.len.ensures, c.args.body.bytes.ok.0) refl

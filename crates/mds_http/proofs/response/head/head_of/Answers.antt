use Rattle.std.proofs.Common.{refl}
use Rattle.mds_http.proofs.response.head.head_of.Goals as goal

pub returns : goal.returns
returns c =
    rw (
      c.in_ok-push_str-3.ensures.bytes,
      c.in_ok-add_allow.ensures,
      c.in_ok-push_str-2.ensures.bytes,
      c.in_ok-write-2.ensures.bytes,
      c.in_ok-push_str.ensures.bytes,
      c.in_ok-write.ensures.bytes,
      c.in_ok-text.ensures.bytes,
    )
    refl

use Rattle.std.proofs.Common.{rules, ◌≡◌, ◌<◌, ◌≤◌, IsUtf8, length, get_or, arith}
use Rattle.mds_batch.specs.Batch.{max_items}
use Rattle.mds_pieces.proofs.Between.{whole_batch}
use Rattle.mds_pieces.proofs.Steps.{match_ok}
use Rattle.mds_pieces.proofs.whole.read_parts.Goals as goal

pub returns : goal.returns
returns g c =
    let bytes = c.args.bytes.now in
    let utf8 = match_ok (λ text. (text.now ≡ bytes) × IsUtf8 bytes) _ c.from_utf8.result c.ok.result c.in_ok-ok.field-0 c.ok.ensures.value c.in_ok-ok.was c.from_utf8.ensures.cases in
    let some : 0 < length bytes = omega (arith, c.if-bytes-lt2.false) in
    let first : get_or bytes 0 0 ≡ 91 = search rules in
    let few : length c.in_ok-items.items ≤ max_items = omega (arith, c.count.ensures, c.if-count-gt-MAX_ITEMS.false) in
    whole_batch bytes c.in_ok-items.items some first utf8.1 (omega (arith, c.if-bytes-gt-MAX_BYTES.false)) few c.in_ok-items.ensures

use Rattle.std.proofs.Common.{◌≡◌, ◌<◌, ◌+◌, ◌-◌, ◌==◌, ◌++◌, ◌∷◌, [], if◌then◌else◌, length, take, drop, refl, ◌∙◌, arith}
use Rattle.mds_batch.specs.Items.{IsEventItem}
use Rattle.mds_batch.specs.Batch.{HasItems}
use Rattle.mds_pieces.proofs.Between.{piece_between}
use Rattle.mds_pieces.proofs.Steps.{if_ok}
use Rattle.mds_pieces.proofs.piece.read_piece.Goals as goal

pub returns : goal.returns
returns c =
    let bytes = c.args.bytes.now in
    let piece = take (c.args.to - (c.args.from + 1)) (drop (c.args.from + 1) bytes) in
    let text =
    if_ok (λ _. c.put_text.new.text.items ≡ 91 ∷ (piece ++ (if c.args.to == length bytes then [] else 93 ∷ [])))
    c.put_text.result c.ok.result c.in_ok-ok.field-0 c.ok.ensures.value c.in_ok-ok.was c.put_text.ensures in
    let read =
    if_ok (HasItems IsEventItem c.deref.result.now) c.read.result c.ok-2.result c.in_ok-items.items c.ok-2.ensures.value c.in_ok-items.was c.read.ensures.items in
    let some : 0 < length c.in_ok-items.items = omega (arith, c.count-count.ensures, c.if-count-eq0.false) in
    piece_between bytes c.args.from c.args.to c.in_ok-items.items c.requires.cut (omega (arith, c.if-to-from-lt2.false)) some c.deref.result.now (c.args.to == length bytes) refl
    (c.deref.ensures.value ∙ text) read

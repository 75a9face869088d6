use Rattle.std.proofs.Common.{◌≡◌, ◌++◌, sym, subst}
use Rattle.mds_pieces.specs.Pieces.{AreBetween}
use Rattle.mds_pieces.proofs.Between.{both_between}
use Rattle.mds_pieces.proofs.Steps.{if_ok}
use Rattle.mds_pieces.proofs.join.both.Goals as goal

pub returns : goal.returns
returns c =
    let joined =
    if_ok (λ _. c.append.new.items ≡ c.args.first ++ c.args.second) c.append.result c.ok.result c.in_ok-ok.field-0 c.ok.ensures.value c.in_ok-ok.was c.append.ensures in
    subst (AreBetween c.args.bytes.now c.args.from c.args.to) (sym joined)
    (both_between c.args.bytes.now c.args.from c.args.middle c.args.to c.args.first c.args.second c.requires.order.0 c.requires.order.1 c.requires.cut.within c.requires.first c.requires.second)

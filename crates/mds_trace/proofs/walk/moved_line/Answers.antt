use Rattle.std.proofs.Common.{inl, subst}
use Rattle.mds_trace.specs.Printed.{line_text, IsPlaceLine}
use Rattle.mds_trace.proofs.MoveLemmas.{kept_is}
use Rattle.mds_trace.proofs.walk.moved_line.Goals as goal

pub returns-in-Ok-clause-prints : goal.returns-in-Ok-clause-prints
returns-in-Ok-clause-prints c =
    let same = kept_is c.args.session.now c.make_move.new.session c.make_move.ensures.kept in
    inl (c.in-Ok.ensures.moved, subst (λ walk. IsPlaceLine walk (line_text c.place_line.result)) same c.place_line.ensures)

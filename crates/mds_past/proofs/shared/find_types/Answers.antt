use Rattle.std.proofs.lemmas.Slice.Eq.{starts_is, bytes_eq-Decides}
use Rattle.mds_past.proofs.Lists.{stands_from}
use Rattle.mds_past.proofs.shared.find_types.Goals as goal

pub returns-then-starts_with : goal.returns-then-starts_with
returns-then-starts_with c =
    let found = c.in-Some.ensures.lookup in
    stands_from c.args.types.now c.args.names.now c.in-Some.rest.now _ found.0.0 found.0.3 found.0.2
    ((starts_is bytes_eq-Decides c.in-Some.rest.now c.args.types.now c.starts_with.result c.starts_with.ensures.value).0 c.if-starts_with.true)

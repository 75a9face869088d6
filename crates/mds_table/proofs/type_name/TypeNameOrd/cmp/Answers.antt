use Rattle.std.proofs.Common.{◌≡◌, Some, unwrap_or, ap, refl}
use Rattle.std.specs.declared.cmp.Ordering.TheVariants.{Equal}
use Rattle.std.specs.Ordering.{nat_cmp}
use Rattle.std.specs.Cmp.Lexicographic.{slice_cmp, slice_partial_cmp, lists_agrees}
use Rattle.mds_table.proofs.type_name.TypeNameOrd.cmp.Goals as goal

pub returns : goal.returns
returns c =
    let name = c.args.self.now in
    let other = c.args.other.now in
    let same : unwrap_or (slice_partial_cmp (λ x y. Some (nat_cmp x y)) name other) Equal ≡ slice_cmp nat_cmp name other =
    ap (λ o. unwrap_or o Equal) (lists_agrees (λ x y. refl) name other) in
    cc

use Rattle.std.proofs.Common.{rules, of_calls}
use Rattle.std.specs.Ordering.{nat_cmp}
use Rattle.std.specs.Cmp.Lexicographic.{slice_cmp}
use Rattle.std.proofs.lemmas.Fn.{always_returns_same}
use Rattle.mds_table.proofs.Sought.{sought}
use Rattle.mds_table.proofs.moves.place_of.Goals as goal

pub returns : goal.returns
returns c =
    let found = c.binary_search_by.ensures.position (λ other. slice_cmp nat_cmp other.kind c.args.kind.now) (always_returns_same _ _ _ (λ a r f called. search (rules, of_calls))) in
    sought c.args.moves.now c.args.kind.now c.binary_search_by.result c.requires c.binary_search_by.ensures.bound found

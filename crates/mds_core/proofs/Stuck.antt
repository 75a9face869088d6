-- An event gets stuck at one place.
use Rattle.std.proofs.Common.{◌≡◌, ℕ, ◌+◌, ◌<◌, List, arith}
use Rattle.mds_table.specs.declared.state.State.{State}
use Rattle.mds_table.specs.declared.row.Row.{Row}
use Rattle.mds_table.specs.Chain.{IsStuckAt}

-- an event that gets stuck at a place gets stuck at none behind it
not_behind : (rows : List Row) (held : State) (kinds : List (List ℕ)) (at other : ℕ) → IsStuckAt rows held kinds at → IsStuckAt rows held kinds other → at < other → ⊥
not_behind rows held kinds at other here there before = here.stuck (omega (arith, there.within)) (there.passed (at + 1) (omega arith))

pub one_place : (rows : List Row) (held : State) (kinds : List (List ℕ)) (at other : ℕ) → IsStuckAt rows held kinds at → IsStuckAt rows held kinds other → at ≡ other
one_place rows held kinds at other here there =
    let not_before : at < other → ⊥ = not_behind rows held kinds at other here there in
    let not_after : other < at → ⊥ = not_behind rows held kinds other at there here in
    omega (arith, not_before, not_after)

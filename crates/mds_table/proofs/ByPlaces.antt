-- A chain, step by step and by places.
use Rattle.std.proofs.Common.{◌≡◌, ℕ, ◌+◌, suc, zero, List, [], ◌∷◌, Some, slice_get, Contains, refl, sym, ◌∙◌, ap, subst, arith}
use Rattle.mds_table.specs.declared.state.State.{State}
use Rattle.mds_table.specs.declared.row.Row.{Row}
use Rattle.mds_table.specs.Row.{row_of}
use Rattle.mds_table.specs.Chain.{IsChain, IsChainByPlaces}

-- a first step before a chain
first_step : (rows : List Row) (held next : State) (kind : List ℕ) (kinds : List (List ℕ)) (reported : State) (rest : List State)
    → Contains rows (row_of held kind next) → IsChainByPlaces rows next kinds reported rest
    → (i : ℕ) (from to : State) (k : List ℕ) → slice_get (held ∷ rest) i ≡ Some from → slice_get (kind ∷ kinds) i ≡ Some k
    → slice_get (held ∷ rest) (i + 1) ≡ Some to → Contains rows (row_of from k to)
first_step rows held next kind kinds reported rest row tail zero from to k is_from is_kind is_to =
    let second : Some next ≡ Some to = sym tail.first ∙ is_to in
    let same : row_of held kind next ≡ row_of from k to = cc in
    subst (Contains rows) same row
first_step rows held next kind kinds reported rest row tail (suc i) from to k is_from is_kind is_to =
    let place : suc i + 1 ≡ suc (i + 1) = omega arith in
    tail.steps i from to k is_from is_kind (rw place at is_to)

pub to_places : (rows : List Row) (held : State) (kinds : List (List ℕ)) (reported : State) (chain : List State)
    → IsChain rows held kinds reported chain → IsChainByPlaces rows held kinds reported chain
to_places rows held [] reported chain is =
    rw is.0 (record { count = refl; first = refl; last = ap Some is.1; steps = λ i from to kind is_from is_kind is_to. cc })
to_places rows held (kind ∷ kinds) reported chain is =
    let tail = to_places rows is.0 kinds reported is.1 is.4 in
    rw is.2 (record {
      count = omega (arith, tail.count);
      first = refl;
      last = tail.last;
      steps = first_step rows held is.0 kind kinds reported is.1 is.3 tail;
    })

pub from_places : (rows : List Row) (held : State) (kinds : List (List ℕ)) (reported : State) (chain : List State)
    → IsChainByPlaces rows held kinds reported chain → IsChain rows held kinds reported chain
from_places rows held [] reported [] is = absurd (omega (arith, is.count))
from_places rows held [] reported (state ∷ []) is = (cc (is.first), cc (is.first, is.last))
from_places rows held [] reported (state ∷ next ∷ rest) is = absurd (omega (arith, is.count))
from_places rows held (kind ∷ kinds) reported [] is = absurd (omega (arith, is.count))
from_places rows held (kind ∷ kinds) reported (state ∷ []) is = absurd (omega (arith, is.count))
from_places rows held (kind ∷ kinds) reported (state ∷ next ∷ rest) is =
    let begins : state ∷ next ∷ rest ≡ held ∷ next ∷ rest = cc (is.first) in (
      next,
      next ∷ rest,
      begins,
      is.steps 0 held next kind is.first refl refl,
      from_places rows next kinds reported (next ∷ rest)
          (record {
            count = omega (arith, is.count);
            first = refl;
            last = is.last;
            steps = λ i from to k is_from is_kind is_to.
                let place : suc i + 1 ≡ suc (i + 1) = omega arith in
                is.steps (suc i) from to k is_from is_kind (rw place is_to);
          }),
    )

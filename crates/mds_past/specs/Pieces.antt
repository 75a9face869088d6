-- A list that grows by pieces.
use Rattle.std.specs.Prelude.{◌≡◌, ℕ, ◌+◌, ◌<◌, ◌≤◌, ◌^◌, ◌++◌, List, length, refl}
use Rattle.std.specs.Prelude.{Vec, vec_len, vec_capacity}
use Rattle.std.specs.List.{All, flat_map}
use Rattle.std.specs.Coded.{Coded, code_by, coded×, coded_list, coded_ℕ}

-- the elements in their order, how many of them a piece holds, and for how many further ones there
-- is memory for certain
pub record Pieced (T : Type 0) : Type 0 where
  pub items : List T
  pub size : ℕ
  pub room : ℕ

-- such a list is stored as these three
abbrev pub pieced_code : {T : Type 0} → Coded T → Coded (Pieced T)
pieced_code {T} code =
    code_by (List T × (ℕ × ℕ)) (coded× (coded_list code) (coded× coded_ℕ coded_ℕ))
    (λ list. (list.items, (list.size, list.room)))
    (λ stored. record { items = stored.0; size = stored.1.0; room = stored.1.1 }) (λ _. refl)

-- the elements of the pieces, one piece behind the other
abbrev pub joined : {T A : Type 0} → List (Vec T A) → List T
joined pieces = flat_map (λ piece. piece.items) pieces

-- each full piece has as many elements as a piece holds, the last has memory for further ones, and
-- so many there are in all
pub record ArePieces {T A B : Type 0} (full : Vec (Vec T A) B) (last : Vec T A) (size len room : ℕ)
    : Type 0 where
  pub some : 1 ≤ size
  pub each : All (λ piece. length piece.items ≡ size) full.items
  pub count : length (joined full.items ++ last.items) ≡ len
  pub fits : len + room < 2 ^ 64
  pub few : vec_len last + room ≤ size
  pub has_places : vec_len last + room ≤ vec_capacity last

-- The accepted requests of a shard, and what is kept beside each.
use Rattle.std.specs.Prelude.{◌≡◌, ℕ, ◌+◌, ◌*◌, ◌-◌, ◌≤◌, ◌<◌, ◌^◌, ◌==◌, List, length}
use Rattle.std.specs.Prelude.{Option, Some, None, cond, Vec, vec_len, vec_capacity}
use Rattle.std.specs.List.{All}
use Rattle.mds_core.specs.declared.key.Key.{Key}
use Rattle.mds_core.specs.declared.request.Request.{Request}
use Rattle.mds_core.specs.Reported.{max_event_types}
use Rattle.mds_past.specs.Pieces.{Pieced}

-- the requests in their order, beside each the place of the request about its vehicle before it,
-- and for how many further ones there is room for certain
pub record PastKept : Type 0 where
  pub requests : List Request
  pub before : List (Option ℕ)
  pub room : ℕ

-- the place for which this is kept: the number is one more than it, and 0 where there is none
abbrev pub place_before : ℕ → Option ℕ
place_before behind = cond (behind == 0) None (Some (behind - 1))

-- each request is kept beside the keys and names, as many places are beside them, and there is room
-- for further ones
pub record AreKept {K A B : Type 0} (is_kept : K → List Key → List (List ℕ) → Type 0)
    (piece : ℕ) (keys : Vec Key A) (names : Vec (List ℕ) B) (kept : Pieced K) (behind : Pieced ℕ)
    (room limit : ℕ) : Type 0 where
  pub each : All (λ one. is_kept one keys.items names.items) kept.items
  pub count : length behind.items ≡ length kept.items
  pub pieces : kept.size ≡ piece
  pub fits : limit < 2 ^ 32
  pub most : length kept.items + room ≤ limit
  pub most_keys : vec_len keys + room ≤ limit
  pub most_names : vec_len names + room * max_event_types ≤ limit
  pub has_key : vec_len keys + room ≤ vec_capacity keys
  pub has_names : vec_len names + room * max_event_types ≤ vec_capacity names
  pub has_place : room ≤ kept.room
  pub has_behind : room ≤ behind.room

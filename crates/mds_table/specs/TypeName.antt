-- The names of event types.
use Rattle.std.specs.Prelude.{◌≡◌, ℕ, ◌-◌, ◌≤◌, ◌++◌, take, replicate, ◌&&◌}
use Rattle.std.specs.Prelude.{◌||◌, ◌==◌, List, length, Bool, true, nat_le}
use Rattle.std.specs.List.{list_all}

-- a byte of a-z, 0-9 or _
abbrev pub may_stand : ℕ → Bool
may_stand byte =
    ((nat_le 97 byte && nat_le byte 122) || (nat_le 48 byte && nat_le byte 57)) || (byte == 95)

-- 1 to 32 bytes, each of which may stand in a name
pub record IsTypeName (text : List ℕ) : Type 0 where
  pub some : 1 ≤ length text
  pub short : length text ≤ 32
  pub bytes : list_all may_stand text ≡ true

-- the same as a test
abbrev pub is_type_name : List ℕ → Bool
is_type_name text = (nat_le 1 (length text) && nat_le (length text) 32) && list_all may_stand text

-- the name as it is kept: its bytes, then zeros, 32 in all
abbrev pub padded_name : List ℕ → List ℕ
padded_name text = text ++ replicate (32 - length text) 0

-- these bytes, of which the first so many are the name, are the name as it is kept
pub record IsPadded (bytes : List ℕ) (n : ℕ) : Type 0 where
  pub short : n ≤ 32
  pub count : length (take n bytes) ≡ n
  pub name : IsTypeName (take n bytes)
  pub whole : padded_name (take n bytes) ≡ bytes

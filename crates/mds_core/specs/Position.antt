-- Positions on the Earth.
use Rattle.std.specs.Prelude.{ℕ, ℤ, pos, ◌-ℤ◌, ◌≤ℤ◌}

-- the most ten-millionths of a degree of latitude
abbrev pub max_latitude : ℕ
max_latitude = 900000000

-- the most ten-millionths of a degree of longitude
abbrev pub max_longitude : ℕ
max_longitude = 1800000000

-- a latitude and a longitude on the Earth, in ten-millionths of a degree
pub record IsOnEarth (lat lng : ℤ) : Type 0 where
  pub south : (pos 0 -ℤ pos max_latitude) ≤ℤ lat
  pub north : lat ≤ℤ pos max_latitude
  pub west : (pos 0 -ℤ pos max_longitude) ≤ℤ lng
  pub east : lng ≤ℤ pos max_longitude

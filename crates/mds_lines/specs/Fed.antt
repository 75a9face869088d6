-- What is kept of a stream that is fed in pieces.
use Rattle.std.specs.Prelude.{ℕ, List, Option}
use Rattle.mds_lines.specs.declared.line_fault.LineFault.{LineFault}

-- the bytes that were fed, and the first fault that they have; with a fault not all of the last
-- piece need be kept
pub record Fed : Type 0 where
  pub bytes : List ℕ
  pub fault : Option LineFault

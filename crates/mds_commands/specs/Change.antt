-- What is known of a stream, before and after.
use Rattle.std.specs.Prelude.{ℕ, List, Option}

-- the known bytes of a stream: those that its writer was sent, or those that its reader has left
pub record Change : Type 0 where
  -- before what was done
  pub before : Option (List ℕ)
  -- after it
  pub after : Option (List ℕ)

-- from these to those
abbrev pub change_of : Option (List ℕ) → Option (List ℕ) → Change
change_of before after = record { before = before; after = after }

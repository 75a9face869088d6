-- How a script is read.
use Rattle.std.specs.Prelude.{◌≡◌, ℕ, ◌≤◌, List, length, take}
use Rattle.std.specs.Prelude.{Option, Result, Ok, Err, IfSome, OnOk}
use Rattle.std.specs.Io.KnownBytes.{Consumes}
use Rattle.std.specs.declared.alloc.AllocError.{AllocError}
use Rattle.mds_trace.specs.declared.input.ScriptEnd.{ScriptEnd}
use Rattle.mds_trace.specs.declared.input.ScriptEnd.TheVariants.{Whole, Broken}
use Rattle.mds_io.specs.declared.read.ReadError.{ReadError}
use Rattle.mds_io.specs.declared.read.ReadError.TheVariants.{Memory, Device, TooManyTurns}

-- how many bytes of a script are read at most
abbrev pub max_script : ℕ
max_script = 1048576

-- all that a reader of a script has, or the first of its bytes
unfoldable pub script_front : List ℕ → List ℕ
script_front all = take max_script all

-- where it is known what the reader had left, the bytes are the front of that
abbrev pub HasScript : Option (List ℕ) → List ℕ → Type 0
HasScript known bytes = IfSome known (λ all. bytes ≡ script_front all)

-- how the reading of a script ended, by what it came to; for want of memory there is no script
abbrev pub EndsAs : Result (Unit {0}) ReadError → Result ScriptEnd AllocError → Type 0
EndsAs (Ok done) end = end ≡ Ok Whole
EndsAs (Err Device) end = end ≡ Ok Broken
EndsAs (Err TooManyTurns) end = end ≡ Ok Broken
EndsAs (Err Memory) end = OnOk end ⊥

-- these bytes were read of a script, and reading ended so: they are what the reader lost, at most
-- so many; where it ended whole they are all that the reader had, or the first of that
abbrev pub IsReadTo : Option (List ℕ) → Option (List ℕ) → List ℕ → ScriptEnd → Type 0
IsReadTo input input_new bytes end =
    Consumes input input_new bytes × (length bytes ≤ max_script)
    × (end ≡ Whole → HasScript input bytes)

-- these bytes were read of a script: it is whole, or reading broke off
abbrev pub IsRead : Option (List ℕ) → Option (List ℕ) → List ℕ → Type 0
IsRead input input_new bytes = (end : ScriptEnd) × IsReadTo input input_new bytes end

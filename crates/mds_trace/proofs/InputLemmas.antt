-- Lemmas on reading a script.
use Rattle.std.proofs.Common.{◌≡◌, ℕ, ◌-◌, ◌<◌, List, [], length, Option, Result, Ok, Err, OnOk}
use Rattle.std.specs.Io.KnownBytes.{IsAtEnd}
use Rattle.mds_io.specs.declared.read.ReadError.{ReadError}
use Rattle.mds_io.specs.declared.read.ReadError.TheVariants.{Memory, Device, TooManyTurns}
use Rattle.mds_io.specs.Read.{Gains}
use Rattle.mds_io.proofs.ReadLemmas.{read_from_none}
use Rattle.mds_trace.specs.declared.input.ScriptEnd.{ScriptEnd}
use Rattle.mds_trace.specs.declared.input.ScriptEnd.TheVariants.{Whole}
use Rattle.mds_trace.specs.Input.{EndsAs, HasScript, script_front}

-- reading from none that stopped at the limit or at the reader's end has the script
pub whole_script : (a b : Option (List ℕ)) (held bytes : List ℕ) → held ≡ [] → Gains (1048576 - length held) a b held bytes → (length bytes < 1048576 → IsAtEnd b) → HasScript a bytes
unfolding script_front
whole_script a b held bytes none gains end = read_from_none 1048576 a b held bytes none gains end

-- a script that is whole was read to its end
pub whole_end : {P : Type 0} (end : ScriptEnd) (read : Result (Unit {0}) ReadError) → EndsAs read (Ok end) → OnOk read P → end ≡ Whole → P
whole_end end (Ok done) is holds whole = holds
whole_end end (Err Device) is holds whole = cc
whole_end end (Err TooManyTurns) is holds whole = cc
whole_end end (Err Memory) is holds whole = absurd is

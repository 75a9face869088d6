-- The words of faults.
use Rattle.std.specs.Prelude.{ℕ, List, ◌++◌, codes, decimal}
use Rattle.mds_face.specs.declared.connection.ServeFault.{ServeFault}
use Rattle.mds_face.specs.declared.connection.ServeFault.TheVariants.{Read, Write, Memory}
use Rattle.mds_face.specs.declared.connection.ServeFault.TheVariants.{TooManyTurns}

-- the word for a fault, and how many bytes were sent
abbrev pub serve_fault_text : ServeFault → List ℕ
serve_fault_text Read = codes "read"
serve_fault_text (Write sent) = codes "write " ++ decimal sent
serve_fault_text (Memory sent) = codes "memory " ++ decimal sent
serve_fault_text (TooManyTurns sent) = codes "too_many_turns " ++ decimal sent

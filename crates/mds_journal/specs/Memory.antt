-- What a file in memory shows.
use Rattle.std.specs.Prelude.{ℕ, List}
use Rattle.mds_journal.specs.declared.memory.Memory.{Memory}

-- its bytes
abbrev pub memory_bytes : Memory → List ℕ
memory_bytes memory = memory.bytes.items

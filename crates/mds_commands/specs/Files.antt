-- What a command is given to read.
use Rattle.std.specs.Prelude.{ℕ, List, Option}
use Rattle.mds_commands.specs.declared.source.Source.{Source}

-- the files of a command: the table file, if one is given, and the file that it works on
pub record Files (T R : Type 0) : Type 0 where
  -- the known bytes of a table file's reader
  pub table_bytes : T → Option (List ℕ)
  -- the table file, if one is given
  pub table : Option (Source T)
  -- the known bytes of the file's reader
  pub file_bytes : R → Option (List ℕ)
  -- the file of events, or the journal
  pub file : Source R

-- the files that are these
abbrev pub files_of : {T R : Type 0} → (T → Option (List ℕ)) → Option (Source T)
    → (R → Option (List ℕ)) → Source R → Files T R
files_of table_bytes table file_bytes file =
    record { table_bytes = table_bytes; table = table; file_bytes = file_bytes; file = file }

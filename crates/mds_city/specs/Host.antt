-- What the program runs on, and the table file that a command is given.
use Rattle.std.specs.Prelude.{ℕ, List, Option, Result}
use Rattle.mds_file.specs.declared.fault.FileFault.{FileFault}
use Rattle.mds_commands.specs.declared.source.Source.{Source}

-- the table file of a command
pub record TableFile (T : Type 0) : Type 0 where
  -- the known bytes of its reader
  pub bytes : T → Option (List ℕ)
  -- the file, if one is given
  pub file : Option (Source T)

-- what a host gives a server
pub record ServerHost (L J : Type 0) : Type 1 where
  -- the relation of a number asked for to what listens and its port's number
  pub listens : ℕ → L → ℕ → Type 0
  -- the relation of a path to what comes of opening the journal there
  pub opens_journal : List ℕ → Result J FileFault → Type 0

-- what a host gives that opens files
pub record FileHost (F : Type 0) : Type 1 where
  -- the relation of a path to what comes of opening the file there
  pub opens : List ℕ → Option F → Type 0
  -- the known bytes of a file's reader
  pub bytes : F → Option (List ℕ)

-- what a host gives that makes new files
pub record FileMaker (N : Type 0) : Type 1 where
  -- the relation of a path to the name that it is
  pub names : List ℕ → N → Type 0
  -- what may stand under a name where a crash comes
  pub may_stand : N → Option (List ℕ) → Type 0
  -- all answers of the file that was given the name were those of a disk that keeps what it is given
  pub is_true : N → Type 0
  -- all answers of a name were those of a system that keeps what has it
  pub keeps : N → Type 0
  -- something has the name
  pub is_taken : N → Type 0
  -- it was given to a file in place of what had it
  pub is_over : N → Type 0

-- what a host gives of its files
pub record HostFiles (F N : Type 0) : Type 1 where
  pub opener : FileHost F
  pub maker : FileMaker N

-- standard input
pub record StandardInput (I : Type 0) : Type 0 where
  -- the known bytes of its reader
  pub bytes : I → Option (List ℕ)
  -- its reader
  pub reader : I

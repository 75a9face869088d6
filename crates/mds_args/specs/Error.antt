-- Why words give no command.
use Rattle.std.specs.Prelude.{◌≡◌, ◌⊎◌, List, [], Option, Some, None}
use Rattle.clap.specs.Words.{HasKind, Row, Text, fault_of, kind_of, subcommand_of}
use Rattle.clap.specs.declared.error.Error.{Error}
use Rattle.clap.specs.declared.error.kind.ErrorKind.{ErrorKind}
use Rattle.clap.specs.declared.error.kind.ErrorKind.TheVariants as kind
use Rattle.mds_args.specs.declared.error.WordsError.{WordsError}
use Rattle.mds_args.specs.declared.error.WordsErrorKind.{WordsErrorKind}
use Rattle.mds_args.specs.declared.error.WordsErrorKind.TheVariants.{Help, Mistake, Memory}
use Rattle.mds_args.specs.Words.{AsksNothing, program_app}

-- of which kind an error is by what `clap` tells of it: help and the version are help, all else but
-- the want of memory is a mistake
abbrev pub kind_in : ErrorKind → WordsErrorKind
kind_in kind.DisplayHelp = Help
kind_in kind.DisplayVersion = Help
kind_in kind.OutOfMemory = Memory
kind_in other = Mistake

-- the kind of an error of words
abbrev pub words_kind : WordsError → WordsErrorKind
words_kind error = kind_in (kind_of error.cause)

-- the kind of an error that tells what words lack: a command's name, or an argument of a command
abbrev pub missing_kind : Option (Text × List Row) → ErrorKind
missing_kind None = kind.MissingSubcommand
missing_kind (Some found) = kind.MissingRequiredArgument

-- the error says that these are a command's name and values of no command; or memory was refused
abbrev pub SaysMissing : Option (Text × List Row) → Error → Type 0
SaysMissing found error =
    (kind_of error ≡ kind.OutOfMemory)
    ⊎ (AsksNothing found × (kind_of error ≡ missing_kind found))

-- why these words give no command: `clap` finds such a fault in them, or finds none and they ask
-- for none, which the error says; or memory was refused
abbrev pub IsCause : List Text → Error → Type 0
IsCause words error =
    HasKind (fault_of program_app words) error
    ⊎ ((fault_of program_app words ≡ []) × AsksNothing (subcommand_of program_app words)
    × (kind_of error ≡ missing_kind (subcommand_of program_app words)))

-- the error of words has such a cause
abbrev pub HasCause : List Text → WordsError → Type 0
HasCause words error = IsCause words error.cause

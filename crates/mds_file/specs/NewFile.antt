-- What may stand under the name of a new file.
use Rattle.std.specs.Prelude.{◌≡◌, ◌⊎◌, ℕ, List, length, Bool, true, false, Option, Some, None}
use Rattle.mds_file.specs.Calls.{AreAnswers, Outcome}
use Rattle.mds_file.specs.DiskFile.{calls_of}
use Rattle.mds_file.specs.NameCalls.{NameCall, AreNameAnswers, IsOver, name_calls_in}
use Rattle.mds_file.specs.declared.disk_file.DiskFile.{DiskFile}
use Rattle.mds_file.specs.declared.new_file.NewFile.{NewFile}

-- a file stands there that a crash may leave so
abbrev pub HasName : (List ℕ → Type 0) → Option (List ℕ) → Type 0
HasName leaves found = (bytes : List ℕ) × leaves bytes × (found ≡ Some bytes)

-- the file that was given the name stands there, as a crash may leave it
abbrev pub IsFileThere : {O : Type 0} → List ℕ → (ℕ → List ℕ) → Option (DiskFile O)
    → Option (List ℕ) → Type 0
IsFileThere first left None found = ⊥
IsFileThere first left (Some file) found = HasName (Outcome first left (calls_of file)) found

-- nothing, unless the name was put on the disk; or the file that was given it
abbrev pub MayStand : {O : Type 0} → List ℕ → (ℕ → List ℕ) → NewFile O
    → Option (List ℕ) → Type 0
MayStand first left name found =
    ((name.is_kept ≡ false) × (found ≡ None)) ⊎ IsFileThere first left name.named found

-- what the calls of that file answered is what a file answers that keeps what it is given
abbrev pub AreAnswersOf : {O : Type 0} → List ℕ → (ℕ → List ℕ) → Option (DiskFile O) → Type 0
AreAnswersOf first left None = Unit {0}
AreAnswersOf first left (Some file) = AreAnswers first left (calls_of file)

abbrev pub IsNamedTruly : {O : Type 0} → List ℕ → (ℕ → List ℕ) → NewFile O → Type 0
IsNamedTruly first left name = AreAnswersOf first left name.named

-- the calls that were made of the name
abbrev pub name_calls_of : {O : Type 0} → NewFile O → List NameCall
name_calls_of name = name_calls_in name.calls.made

-- what these answered is what a system answers that keeps what has a name
abbrev pub IsKeptTruly : {O : Type 0} → (ℕ → Bool) → NewFile O → Type 0
IsKeptTruly taken name = AreNameAnswers taken (name_calls_of name)

-- something has the name by now
abbrev pub IsTaken : {O : Type 0} → (ℕ → Bool) → NewFile O → Type 0
IsTaken taken name = taken (length (name_calls_of name)) ≡ true

-- the name was given to a file in place of what had it
abbrev pub WentOver : {O : Type 0} → (ℕ → Bool) → NewFile O → Type 0
WentOver taken name = IsOver taken (name_calls_of name)

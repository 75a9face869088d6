-- Whether the gate behind the lines of a journal was hurt.
use Rattle.std.specs.Prelude.{◌≡◌, ◌<◌, ◌≤◌, ℕ, Bool, List, [], ◌∷◌, ◌++◌, length, drop, All}
use Rattle.std.specs.Prelude.{Option, Some, None, IfSome, MatchBool}
use Rattle.mds_journal.specs.declared.stream.StreamError.{StreamError}
use Rattle.mds_journal.specs.declared.stream.StreamError.TheVariants.{TooLong}
use Rattle.mds_groups.specs.Form.{IsJournal}
use Rattle.mds_groups.specs.Behind.{BeginWithGroup}
use Rattle.mds_groups.specs.declared.form.JournalForm.{JournalForm}
use Rattle.mds_groups.specs.declared.form.JournalForm.TheVariants.{Checked}
use Rattle.mds_journal.specs.Lines.{lines_behind, open_lines, recovered_texts}
use Rattle.mds_commands.specs.Taking.{AreTexts, IsShort}
use Rattle.mds_commands.specs.declared.source.Source.{Source}

-- behind a gate stand a whole group and then an open line, and none is too long: that gate was open
abbrev pub HasOpenBehind : List ℕ → Type 0
HasOpenBehind bytes =
    (texts : List (List ℕ)) × (next : List ℕ) × (more : List (List ℕ))
    × BeginWithGroup (lines_behind bytes) texts (next ∷ more) × All IsShort (texts ++ next ∷ [])

-- whether this is so of known bytes
abbrev pub TellsOpenBehind : Option (List ℕ) → Bool → Type 0
TellsOpenBehind known told =
    IfSome known (λ bytes. MatchBool told (HasOpenBehind bytes) (HasOpenBehind bytes → ⊥))

-- among the lines of known bytes that count a whole group comes first, and these bytes are left
abbrev pub HandsOutGroup : Option (List ℕ) → Option (List ℕ) → Type 0
HandsOutGroup None left = Unit {0}
HandsOutGroup (Some bytes) None = ⊥
HandsOutGroup (Some bytes) (Some rest) =
    (texts : List (List ℕ)) × All IsShort texts
    × BeginWithGroup (recovered_texts bytes) texts (recovered_texts rest)

-- no group and a line behind it come first, with none too long
abbrev pub HasNoGroup : Option (List ℕ) → Type 0
HasNoGroup known =
    IfSome known (λ bytes. (texts : List (List ℕ)) (next : List ℕ) (more : List (List ℕ))
    → BeginWithGroup (recovered_texts bytes) texts (next ∷ more)
    → All IsShort (texts ++ next ∷ []) → ⊥)

-- a line that can't be read on is too long
abbrev pub IsLong : StreamError → Type 0
IsLong error = (line : ℕ) × (error ≡ TooLong line)

-- the bytes behind some lines
abbrev pub bytes_behind : List (List ℕ) → List ℕ → List ℕ
bytes_behind lines bytes = drop (length (open_lines lines)) bytes

-- of known bytes these lines count, with these groups, and the gate behind them was hurt
pub record HasHurtGate (known : Option (List ℕ)) (lines : List (List ℕ))
    (groups : List (List (List ℕ))) : Type 0 where
  pub counted : AreTexts known lines
  pub journal : IsJournal Checked lines groups
  pub behind : IfSome known (λ bytes. HasOpenBehind (bytes_behind lines bytes))

-- of known bytes, which have these lines and groups, the gate behind them wasn't hurt but where this
-- holds
abbrev pub HasSoundGateUnless : Type 0 → Option (List ℕ) → List (List ℕ)
    → List (List (List ℕ)) → Type 0
HasSoundGateUnless Holds known lines groups =
    IfSome known (λ bytes. IsJournal Checked lines groups
    → HasOpenBehind (bytes_behind lines bytes) → Holds)

-- there is a reader, and it has more lines that count than so many
abbrev pub IfOneHasMore : {R : Type 0} → (R → Option (List ℕ)) → Option R → ℕ → Type 0
IfOneHasMore {R} remaining again count =
    (reader : R) × (again ≡ Some reader)
    × IfSome (remaining reader) (λ bytes. count < length (recovered_texts bytes))

-- a file was opened that has more lines that count than so many
abbrev pub HasMoreLines : {R : Type 0} → (R → Option (List ℕ)) → Source R → ℕ → Type 0
HasMoreLines remaining source count = IfOneHasMore remaining source.reader count

-- no reader has more lines that count than so many
abbrev pub HasNoneMore : {R : Type 0} → (R → Option (List ℕ)) → Option R → ℕ → Type 0
HasNoneMore {R} remaining again count =
    (reader : R) → again ≡ Some reader
    → IfSome (remaining reader) (λ bytes. length (recovered_texts bytes) ≤ count)

-- what stands behind a journal's lines: a gate that was hurt
abbrev pub IsHurtBehind : JournalForm → Option (List ℕ) → Type 0
IsHurtBehind form left = (form ≡ Checked) × IfSome left HasOpenBehind

-- what stands behind them: no such gate but where this holds
abbrev pub IsSoundUnless : Type 0 → JournalForm → Option (List ℕ) → Type 0
IsSoundUnless Holds form left =
    form ≡ Checked → IfSome left (λ bytes. HasOpenBehind bytes → Holds)

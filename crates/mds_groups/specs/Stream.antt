-- How far the lines of a journal have been taken.
use Rattle.std.specs.Prelude.{◌≡◌, ◌≢◌, ◌⊎◌, ℕ, List, [], ◌∷◌, ◌++◌, length, map, All}
use Rattle.std.specs.Prelude.{Option, Some, None, IfSome, Vec}
use Rattle.mds_journal.specs.declared.fault.JournalFault.TheVariants.{Form}
use Rattle.mds_check.specs.Form.{check_text, IsText, behind_texts}
use Rattle.mds_groups.specs.Form.{first_line, check_of, header, lines_of, IsEntry, IsJournal}
use Rattle.mds_groups.specs.declared.fault.GroupFault.{GroupFault}
use Rattle.mds_groups.specs.declared.fault.GroupFault.TheVariants.{Damaged, Journal}
use Rattle.mds_groups.specs.declared.form.JournalForm.{JournalForm}
use Rattle.mds_groups.specs.declared.form.JournalForm.TheVariants.{Plain, Checked}
use Rattle.mds_groups.specs.declared.stream.GroupError.{GroupError}
use Rattle.mds_groups.specs.declared.stream.GroupError.TheVariants.{Memory, Fault}
use Rattle.mds_groups.specs.declared.stream.GroupStream.{GroupStream}
use Rattle.mds_groups.specs.declared.stream.Stage.{Stage}
use Rattle.mds_groups.specs.declared.stream.Stage.TheVariants.{First, FormCheck, Groups}
use Rattle.mds_groups.specs.declared.stream.WholeGroup.{WholeGroup}

-- the texts of some vectors
abbrev pub texts_held : {A : Type 0} → List (Vec ℕ A) → List (List ℕ)
texts_held texts = map (λ text. text.items) texts

-- the texts of the group that is begun
abbrev pub begun_of : GroupStream → List (List ℕ)
begun_of stream = texts_held stream.texts.items

-- the texts of a group that was handed on
abbrev pub texts_of : WholeGroup → List (List ℕ)
texts_of group = texts_held group.texts.items

-- the groups that a line hands on
abbrev pub handed_on : Option WholeGroup → List (List (List ℕ))
handed_on None = []
handed_on (Some group) = texts_of group ∷ []

-- the lines before the group that is begun
abbrev pub lines_before : Stage → List (List (List ℕ)) → List (List ℕ)
lines_before First groups = []
lines_before FormCheck groups = first_line Checked ∷ []
lines_before (Groups form) groups = header form ++ lines_of form groups

-- what groups may have been handed on, and what texts of another one taken
abbrev pub MayHave : Stage → List (List (List ℕ)) → List (List ℕ) → Type 0
MayHave First groups begun = (groups ≡ []) × (begun ≡ [])
MayHave FormCheck groups begun = (groups ≡ []) × (begun ≡ [])
MayHave (Groups Plain) groups begun = All (All (IsEntry Plain)) groups × (begun ≡ [])
MayHave (Groups Checked) groups begun = All (All (IsEntry Checked)) groups × All IsText begun

-- these lines are the front of a journal: with these groups, which are whole
pub record IsFront (lines : List (List ℕ)) (groups : List (List (List ℕ))) : Type 0 where
  pub stage : Stage
  pub begun : List (List ℕ)
  pub split : lines ≡ lines_before stage groups ++ begun
  pub may : MayHave stage groups begun

-- these lines of a file were taken, from its first one on, and these groups handed on
pub record HasTaken (stream : GroupStream) (lines : List (List ℕ)) (groups : List (List (List ℕ)))
    : Type 0 where
  pub split : lines ≡ lines_before stream.stage groups ++ begun_of stream
  pub may : MayHave stream.stage groups (begun_of stream)
  pub check : stream.check ≡ behind_texts (begun_of stream)

-- these lines end with this group, whose first line has its number, and are whole groups: these
-- before it
pub record EndsGroup (lines : List (List ℕ)) (groups : List (List (List ℕ))) (group : WholeGroup)
    : Type 0 where
  pub form : JournalForm
  pub journal : IsJournal form lines (groups ++ texts_of group ∷ [])
  pub first : group.first ≡ length (header form ++ lines_of form groups)

-- the line of this number goes on with those that were taken, and ends the group that is handed on
abbrev pub Takes : GroupStream → GroupStream → ℕ → List ℕ → Option WholeGroup → Type 0
Takes old new number line next =
    (lines : List (List ℕ)) (groups : List (List (List ℕ)))
    → HasTaken old lines groups → number ≡ length lines
    → HasTaken new (lines ++ line ∷ []) (groups ++ handed_on next)
    × IfSome next (EndsGroup (lines ++ line ∷ []) groups)

-- behind the first line of form 2 its check has to stand
abbrev pub HasOtherFormCheck : List (List ℕ) → List ℕ → ℕ → Type 0
HasOtherFormCheck lines line number =
    (lines ≡ first_line Checked ∷ []) × (line ≢ check_of lines) × (number ≡ 0)

-- a check stands in a journal without checks: it ends no group, so all lines from the first on are
-- in doubt
abbrev pub HasCheckInPlain : List (List ℕ) → List (List (List ℕ)) → List ℕ → ℕ → Type 0
HasCheckInPlain lines groups line number =
    IsJournal Plain lines groups × ((check : ℕ) × (line ≡ check_text check)) × (number ≡ 0)

-- whole groups, and these texts of another one, whose first line has this number
pub record BeginsGroup (lines : List (List ℕ)) (groups : List (List (List ℕ))) (number : ℕ)
    (begun : List (List ℕ)) : Type 0 where
  pub whole : List (List ℕ)
  pub journal : IsJournal Checked whole groups
  pub split : lines ≡ whole ++ begun
  pub texts : All IsText begun
  pub first : number ≡ length whole

-- a line as long as a check isn't that of the texts before it
abbrev pub HasOtherCheck : List (List ℕ) → List (List (List ℕ)) → List ℕ → ℕ → Type 0
HasOtherCheck lines groups line number =
    (begun : List (List ℕ)) × BeginsGroup lines groups number begun
    × (length line ≡ 20) × (line ≢ check_of begun)

-- why a line can't be taken behind these: it names no form; or it isn't the check that has to stand
-- there, so that the group that begins with the line of this number is damaged
abbrev pub IsLineFault : List (List ℕ) → List (List (List ℕ)) → List ℕ → GroupError → Type 0
IsLineFault lines groups line Memory = Unit {0}
IsLineFault lines groups line (Fault (Journal Form)) =
    (lines ≡ []) × ((form : JournalForm) → line ≢ first_line form)
IsLineFault lines groups line (Fault (Damaged number)) =
    HasOtherFormCheck lines line number
    ⊎ HasCheckInPlain lines groups line number
    ⊎ HasOtherCheck lines groups line number
IsLineFault lines groups line (Fault (Journal other)) = ⊥

-- why the line of this number isn't taken
abbrev pub Refuses : GroupStream → ℕ → List ℕ → GroupError → Type 0
Refuses old number line error =
    (lines : List (List ℕ)) (groups : List (List (List ℕ)))
    → HasTaken old lines groups → number ≡ length lines → IsLineFault lines groups line error

-- these lines are all of a file, and a journal with the groups that were handed on
abbrev pub AreWhole : List (List ℕ) → List (List (List ℕ)) → Type 0
AreWhole lines groups = (form : JournalForm) × IsJournal form lines groups

-- what was taken by the one was taken by the other
abbrev pub Keeps : GroupStream → GroupStream → Type 0
Keeps old new =
    (lines : List (List ℕ)) (groups : List (List (List ℕ)))
    → HasTaken old lines groups → HasTaken new lines groups

-- why lines may not end behind these: there is none; or the check of the group isn't there that
-- begins with the line of this number
abbrev pub IsEndFault : List (List ℕ) → List (List (List ℕ)) → GroupFault → Type 0
IsEndFault lines groups (Journal Form) = lines ≡ []
IsEndFault lines groups (Damaged number) =
    ((lines ≡ first_line Checked ∷ []) × (number ≡ 0))
    ⊎ ((begun : List (List ℕ)) × BeginsGroup lines groups number begun × (begun ≢ []))
IsEndFault lines groups (Journal other) = ⊥

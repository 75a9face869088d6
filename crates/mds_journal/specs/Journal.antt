-- What stands in the file of a journal, and what a crash may leave of it.
use Rattle.std.specs.Prelude.{◌≡◌, ◌⊎◌, ℕ, ◌+◌, ◌^◌, ◌<◌, ◌≤◌, true, false, List, ◌++◌, length}
use Rattle.mds_journal.specs.Lines.{recovered_texts, open_lines, at_rest}
use Rattle.mds_journal.specs.declared.device.DeviceError.TheVariants as device
use Rattle.mds_journal.specs.declared.group.TheConstants.{MAX_GROUP_BYTES}
use Rattle.mds_journal.specs.declared.journal.Journal.{Journal}
use Rattle.mds_journal.specs.declared.journal.AppendError.{AppendError}
use Rattle.mds_journal.specs.declared.journal.AppendError.TheVariants.{NotWritten, Full}
use Rattle.mds_journal.specs.declared.journal.AppendError.TheVariants.{Unknown, Lost}

-- open lines of these texts and a closed gate, and less than a group that counts for nothing
pub record IsKept (texts : List (List ℕ)) (file : List ℕ) : Type 0 where
  pub rest : List ℕ
  pub split : file ≡ at_rest texts ++ rest
  pub few : length rest < MAX_GROUP_BYTES

-- the same, where the bytes of a group but its first stand behind the gate
pub record IsStaged (texts : List (List ℕ)) (bytes file : List ℕ) : Type 0 where
  pub rest : List ℕ
  pub split : file ≡ at_rest texts ++ (bytes ++ rest)
  pub few : length bytes + length rest < MAX_GROUP_BYTES

-- no more than a group stands behind the lines that count
abbrev pub HasShortEnd : List ℕ → Type 0
HasShortEnd file = length file ≤ length (open_lines (recovered_texts file)) + MAX_GROUP_BYTES

-- the file stands for the texts from before, with all of the group's or with none
pub record IsBeforeOrAfter (texts group : List (List ℕ)) (file : List ℕ) : Type 0 where
  pub lines : (recovered_texts file ≡ texts) ⊎ (recovered_texts file ≡ texts ++ group)
  pub short : HasShortEnd file

-- the file and each outcome of a crash stand for these texts
pub record StandsFor {D : Type 0} (seen : D → List ℕ) (may_leave : D → List ℕ → Type 0)
    (texts : List (List ℕ)) (device : D) : Type 0 where
  pub now : recovered_texts (seen device) ≡ texts
  pub outcomes : (c : List ℕ) → may_leave device c → recovered_texts c ≡ texts

-- an earlier call left open what is kept: the file must be opened again
abbrev pub IsLost : {D : Type 0} → Journal D → Type 0
IsLost journal = journal.is_lost ≡ true

-- none did
abbrev pub MayGoOn : {D : Type 0} → Journal D → Type 0
MayGoOn journal = journal.is_lost ≡ false

-- the file and each outcome of a crash are open lines of what the file stands for and a closed gate
pub record IsReady {D : Type 0} (seen : D → List ℕ) (may_leave : D → List ℕ → Type 0)
    (journal : Journal D) : Type 0 where
  pub place : journal.end ≡ length (open_lines (recovered_texts (seen journal.device)))
  pub file : IsKept (recovered_texts (seen journal.device)) (seen journal.device)
  pub outcomes : (c : List ℕ)
      → may_leave journal.device c → IsKept (recovered_texts (seen journal.device)) c

-- it may be written to, or it is known that the file must be opened again
pub record IsSound {D : Type 0} (seen : D → List ℕ) (may_leave : D → List ℕ → Type 0)
    (may_be_used is_true : D → Type 0) (journal : Journal D) : Type 0 where
  pub short : journal.end ≤ 2 ^ 62
  pub usable : MayGoOn journal → may_be_used journal.device
  pub ready : MayGoOn journal → is_true journal.device → IsReady seen may_leave journal

-- what the device told, if it did
abbrev pub HasFailed : AppendError → Type 0
HasFailed (NotWritten error) = error ≡ device.Failed
HasFailed (Unknown error) = error ≡ device.Failed
HasFailed Full = ⊥
HasFailed Lost = ⊥

-- the lines from before are there, and the journal may go on
abbrev pub IsNotWritten : AppendError → Type 0
IsNotWritten (NotWritten error) = Unit {0}
IsNotWritten (Unknown error) = ⊥
IsNotWritten Full = ⊥
IsNotWritten Lost = ⊥

-- what is kept is open
abbrev pub IsUnknown : AppendError → Type 0
IsUnknown (NotWritten error) = ⊥
IsUnknown (Unknown error) = Unit {0}
IsUnknown Full = ⊥
IsUnknown Lost = ⊥

-- nothing was asked of the device
abbrev pub IsRefusal : AppendError → Type 0
IsRefusal (NotWritten error) = ⊥
IsRefusal (Unknown error) = ⊥
IsRefusal Full = Unit {0}
IsRefusal Lost = Unit {0}

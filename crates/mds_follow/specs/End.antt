-- What stands behind the lines of a journal that count.
use Rattle.std.specs.Prelude.{◌≡◌, ◌≢◌, ◌<◌, ◌⊎◌, ℕ, List, [], ◌∷◌, ◌++◌, length, drop, slice_index, All, Option, Some, None, Vec}
use Rattle.std.specs.List.{AllZip}
use Rattle.mds_table.specs.Tables.{Tables}
use Rattle.mds_core.specs.declared.request.Request.{Request}
use Rattle.mds_core.specs.Answer.{MayBeDone}
use Rattle.mds_journal.specs.Lines.{open_lines, recovered_texts}
use Rattle.mds_entries.specs.Entry.{Tells}
use Rattle.mds_groups.specs.Form.{group_lines}
use Rattle.mds_groups.specs.Behind.{CountedOnce, IsUnopened}
use Rattle.mds_groups.specs.Laws.{TellsTexts}
use Rattle.mds_groups.specs.declared.form.JournalForm.{JournalForm}
use Rattle.mds_groups.specs.declared.form.JournalForm.TheVariants.{Checked}
use Rattle.mds_groups.specs.declared.fault.GroupFault.TheVariants.{Damaged, Journal as InJournal}
use Rattle.mds_follow.specs.declared.end.JournalEnd.{JournalEnd}
use Rattle.mds_follow.specs.declared.start_fault.StartFault.{StartFault}
use Rattle.mds_follow.specs.declared.start_fault.StartFault.TheVariants.{Memory, Device}
use Rattle.mds_follow.specs.declared.start_fault.StartFault.TheVariants.{Journal, Shared, CutOff}

-- the bytes of a file behind the lines that count
abbrev pub end_of : List ℕ → List ℕ
end_of file = drop (length (open_lines (recovered_texts file))) file

-- a closed gate and line feeds, as a server leaves it; or at most one byte, as a crash leaves of
-- that
abbrev pub IsRoom : List ℕ → Type 0
IsRoom bytes =
    All (λ byte. byte ≡ 10) (drop 1 bytes) × (1 < length bytes → slice_index bytes 0 ≡ 35)

-- what bytes have besides room: nothing where they are room, else some, up to a byte behind which
-- only line feeds stand
abbrev pub IsWithoutRoom : List ℕ → List ℕ → Type 0
IsWithoutRoom bytes cut =
    (IsRoom bytes × (cut ≡ []))
    ⊎ ((IsRoom bytes → ⊥)
    × ((room : List ℕ) × (bytes ≡ cut ++ room) × All (λ byte. byte ≡ 10) room × (cut ≢ [])))

-- requests of a group that wasn't opened, whose lines have so many bytes; or none
abbrev pub IsGroupIn : JournalForm → List ℕ → List Request → ℕ → Type 0
IsGroupIn form bytes requests place =
    ((requests ≡ []) × (place ≡ 0))
    ⊎ ((texts : List (List ℕ)) × IsUnopened form bytes texts × AllZip Tells texts requests
    × (place ≡ length (open_lines (group_lines Checked texts))))

-- where a group wasn't opened, whose texts tell requests, these are they
abbrev pub IsAllOf : JournalForm → List ℕ → List Request → Type 0
IsAllOf form bytes requests =
    (texts : List (List ℕ)) (told : List Request)
    → IsUnopened form bytes texts → AllZip Tells texts told → requests ≡ told

-- what was found in these bytes
pub record IsEnd (form : JournalForm) (bytes : List ℕ) (end : JournalEnd) : Type 0 where
  pub bytes_are : end.bytes.items ≡ bytes
  pub whole : CountedOnce form bytes → ⊥
  pub group : IsGroupIn form bytes end.requests.items end.place
  pub all : IsAllOf form bytes end.requests.items

-- what was found behind the lines of a file, which is a journal with these texts
pub record IsEndOf (file : List ℕ) (texts : List (List ℕ)) (end : JournalEnd) : Type 0 where
  pub form : JournalForm
  pub tells : TellsTexts form (recovered_texts file) texts
  pub found : IsEnd form (end_of file) end

-- what was found in these bytes, of a checked journal: a group's requests, and how many bytes its
-- lines have
abbrev pub IsFoundIn : {A : Type 0} → List ℕ → Option (Vec Request A × ℕ) → Type 0
IsFoundIn bytes None =
    (CountedOnce Checked bytes → ⊥) × IsAllOf Checked bytes []
IsFoundIn bytes (Some (requests, place)) =
    (CountedOnce Checked bytes → ⊥)
    × ((texts : List (List ℕ)) × IsUnopened Checked bytes texts × AllZip Tells texts requests.items
    × (place ≡ length (open_lines (group_lines Checked texts))))

-- why nothing can be said of these bytes, which stand behind so many lines
abbrev pub IsHurtEnd : JournalForm → List ℕ → ℕ → StartFault → Type 0
IsHurtEnd form bytes count (Journal (Damaged line)) = (line ≡ count) × CountedOnce form bytes
IsHurtEnd form bytes count (Journal (InJournal fault)) = ⊥
IsHurtEnd form bytes count Memory = Unit {0}
IsHurtEnd form bytes count Device = Unit {0}
IsHurtEnd form bytes count Shared = ⊥
IsHurtEnd form bytes count CutOff = ⊥

-- the fault says nothing of the file
abbrev pub IsNoFileFault : StartFault → Type 0
IsNoFileFault Memory = Unit {0}
IsNoFileFault Device = Unit {0}
IsNoFileFault Shared = Unit {0}
IsNoFileFault (Journal fault) = ⊥
IsNoFileFault CutOff = ⊥

-- bytes stand aside, if there are any
abbrev pub IsPutAside : (List ℕ → Type 0) → List ℕ → Type 0
IsPutAside stand bytes = bytes ≢ [] → stand bytes

-- of bytes that are cut off stands aside what is no room
abbrev pub IsCutOff : (List ℕ → Type 0) → List ℕ → Type 0
IsCutOff stand bytes = (cut : List ℕ) × IsWithoutRoom bytes cut × IsPutAside stand cut

-- behind the lines of a file a start found these requests of a group that wasn't opened, or none;
-- what is cut off behind them stands aside
pub record EndsWith (file : List ℕ) (stand : List ℕ → Type 0) (requests : List Request)
    : Type 0 where
  pub form : JournalForm
  pub texts : List (List ℕ)
  pub tells : TellsTexts form (recovered_texts file) texts
  pub whole : CountedOnce form (end_of file) → ⊥
  pub place : ℕ
  pub group : IsGroupIn form (end_of file) requests place
  pub all : IsAllOf form (end_of file) requests
  pub cut : IsCutOff stand (drop place (end_of file))

-- one of some requests may not be done behind these and those before it
pub record HasRefused (tables : Tables) (told requests : List Request) : Type 0 where
  pub before : List Request
  pub request : Request
  pub rest : List Request
  pub split : requests ≡ before ++ request ∷ rest
  pub refused : MayBeDone tables (told ++ before) request → ⊥

-- a group that wasn't opened stands behind the lines of a file, which tell these texts; and one of
-- its requests may not be done
pub record IsRefusedEnd (tables : Tables) (file : List ℕ) (texts : List (List ℕ)) (told : List Request)
    : Type 0 where
  pub form : JournalForm
  pub tells : TellsTexts form (recovered_texts file) texts
  pub group : List (List ℕ)
  pub requests : List Request
  pub unopened : IsUnopened form (end_of file) group
  pub told_by : AllZip Tells group requests
  pub refused : HasRefused tables told requests

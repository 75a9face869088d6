-- What a journal tells after a group was appended.
use Rattle.std.proofs.Common.{◌≡◌, ◌⊎◌, inl, inr, ℕ, ◌+◌, ◌<◌, List, length, take, get_or, arith, [], ◌∷◌, ◌++◌, Bool, true, false, Result, Ok, Err, refl, sym, ap, ◌∙◌, subst}
use Rattle.std.specs.List.{AllZip}
use Rattle.std.proofs.lemmas.List.{take_more}
use Rattle.mds_core.specs.declared.request.Request.{Request}
use Rattle.mds_journal.specs.Lines.{recovered_texts}
use Rattle.mds_journal.specs.Device.{LeavesOnly}
use Rattle.mds_journal.specs.Journal.{StandsFor, MayGoOn, IsLost, IsRefusal}
use Rattle.mds_journal.specs.declared.journal.Journal.{Journal}
use Rattle.mds_journal.specs.Journal.{IsBeforeOrAfter as IsFileBeforeOrAfter}
use Rattle.mds_journal.specs.declared.journal.AppendError.{AppendError}
use Rattle.mds_journal.specs.declared.journal.AppendError.TheVariants.{NotWritten, Full, Unknown, Lost}
use Rattle.std.proofs.lemmas.List.{append_cancel_left}
use Rattle.mds_entries.specs.Entry.{Tells}
use Rattle.mds_groups.specs.Form.{first_line, header, texts_in, IsJournal}
use Rattle.mds_groups.specs.Laws.{TellsTexts}
use Rattle.mds_groups.specs.declared.form.JournalForm.{JournalForm}
use Rattle.mds_groups.specs.declared.form.JournalForm.TheVariants.{Plain, Checked}
use Rattle.mds_groups.proofs.ChangeLemmas.{forms_differ}
use Rattle.mds_groups.proofs.JournalLemmas.{journals_go_on, journals_tell_once}
use Rattle.mds_follow.specs.declared.disk.Disk.{Disk}
use Rattle.mds_follow.specs.Record.{IsBeforeOrAfter, Passes}
use Rattle.mds_entries.proofs.EntryLemmas.{lines_tell_one_request}
use Rattle.mds_follow.specs.Disk.{IsTold, IsToldIn, Records, Stands, MayRead, TextsTellOneList}

-- two pairs of lists that fit
pub zip_append : {X Y : Type 0} (R : X → Y → Type 0) (xs us : List X) (ys vs : List Y) → AllZip R xs ys → AllZip R us vs → AllZip R (xs ++ us) (ys ++ vs)
zip_append R [] us [] vs first second = second
zip_append R [] us (y ∷ ys) vs first second = absurd first
zip_append R (x ∷ xs) us [] vs first second = absurd first
zip_append R (x ∷ xs) us (y ∷ ys) vs first second = (first.0, zip_append R xs us ys vs first.1 second)

-- lines tell one list of requests
pub entries_tell_one : (entries : List (List ℕ)) (told other : List Request) → AllZip Tells entries told → AllZip Tells entries other → told ≡ other
entries_tell_one [] [] [] tells tells_other = refl
entries_tell_one [] [] (request ∷ other) tells tells_other = absurd tells_other
entries_tell_one [] (request ∷ told) other tells tells_other = absurd tells
entries_tell_one (line ∷ entries) [] other tells tells_other = absurd tells
entries_tell_one (line ∷ entries) (request ∷ told) [] tells tells_other = absurd tells_other
entries_tell_one (line ∷ entries) (request ∷ told) (one ∷ other) tells tells_other =
    let first : request ≡ one = lines_tell_one_request line request one tells.0 tells_other.0 in
    let rest : told ≡ other = entries_tell_one entries told other tells.1 tells_other.1 in
    cc (first, rest)

-- lines of a journal tell texts in one way
texts_once : (form : JournalForm) (lines : List (List ℕ)) (groups others : List (List (List ℕ))) → IsJournal form lines groups → IsJournal form lines others → texts_in groups ≡ texts_in others
texts_once Plain lines groups others one other = append_cancel_left (header Plain) (texts_in groups) (texts_in others) (sym one.lines_are ∙ other.lines_are)
texts_once Checked lines groups others one other = ap texts_in (journals_tell_once lines groups others one other)

told_once : (form : JournalForm) (lines : List (List ℕ)) (told other : List Request) → IsToldIn form lines told → IsToldIn form lines other → told ≡ other
told_once form lines told other is are =
    let same : are.texts ≡ is.texts =
    sym are.groups.told ∙ texts_once form lines are.groups.groups is.groups.groups are.groups.journal is.groups.journal ∙ is.groups.told in
    entries_tell_one is.texts told other is.tells (subst (λ (w : List (List ℕ)). AllZip Tells w other) same are.tells)

-- and are of one form
not_both : (lines : List (List ℕ)) (groups others : List (List (List ℕ))) → IsJournal Checked lines groups → IsJournal Plain lines others → ⊥
not_both lines groups others checked plain =
    let whole = sym checked.lines_are ∙ plain.lines_are in
    let first : first_line Checked ≡ first_line Plain = cc whole in
    forms_differ first

by_forms : (form another : JournalForm) (lines : List (List ℕ)) (told other : List Request) → IsToldIn form lines told → IsToldIn another lines other → told ≡ other
by_forms Plain Plain lines told other is are = told_once Plain lines told other is are
by_forms Checked Checked lines told other is are = told_once Checked lines told other is are
by_forms Plain Checked lines told other is are = absurd (not_both lines are.groups.groups is.groups.groups are.groups.journal is.groups.journal)
by_forms Checked Plain lines told other is are = absurd (not_both lines is.groups.groups are.groups.groups is.groups.journal are.groups.journal)

pub texts_tell_one_list : TextsTellOneList
texts_tell_one_list lines told other is are = by_forms is.0 are.0 lines told other is.1 are.1

-- lines that record requests, behind a journal's, tell them behind others
pub told_more : (form : JournalForm) (lines group : List (List ℕ)) (told requests : List Request) → IsToldIn form lines told → Records form requests group
    → IsToldIn form (lines ++ group) (told ++ requests)
told_more form lines group told requests is records =
    let more = journals_go_on form lines is.texts records.texts is.groups records.are in
    record {
      texts = is.texts ++ records.texts;
      groups = subst (λ (w : List (List ℕ)). TellsTexts form (lines ++ w) (is.texts ++ records.texts)) (sym records.lines_are) more;
      tells = zip_append Tells is.texts records.texts told requests is.tells records.tells;
    }

-- the file stands for the requests of a group that was acknowledged
pub stands_more : {D : Type 0} (seen : D → List ℕ) (may_leave : D → List ℕ → Type 0) (old new : Disk D) (group : List (List ℕ)) (told requests : List Request)
    → new.form ≡ old.form → Stands seen may_leave old told → Records old.form requests group
    → StandsFor seen may_leave (recovered_texts (seen old.journal.device) ++ group) new.journal.device → Stands seen may_leave new (told ++ requests)
stands_more seen may_leave old new group told requests same stands records now =
    let before = recovered_texts (seen old.journal.device) in
    let Told : List (List ℕ) → Type 0 = λ w. IsToldIn old.form w told in
    let In : JournalForm → Type 0 = λ w. IsToldIn w (before ++ group) (told ++ requests) in
    record {
      lines = before ++ group;
      is_told = subst In (sym same) (told_more old.form before group told requests (subst Told (sym stands.stands.now) stands.is_told) records);
      stands = now;
    }

-- a journal that isn't lost may go on
pub not_lost : (is_lost : Bool) → (is_lost ≡ true → ⊥) → is_lost ≡ false
not_lost true other = absurd (other refl)
not_lost false other = refl

-- the call didn't end with the error of a journal that was lost before
abbrev pub IsOther : Result (Unit {0}) AppendError → Type 0
IsOther (Ok done) = Unit {0}
IsOther (Err Lost) = ⊥
IsOther (Err Full) = Unit {0}
IsOther (Err (NotWritten error)) = Unit {0}
IsOther (Err (Unknown error)) = Unit {0}

-- such an error
abbrev pub failed : AppendError → Result (Unit {0}) AppendError
failed error = Err error

-- so it was made of one that might go on
pub was_usable : {D : Type 0} (old : Journal D) (result : Result (Unit {0}) AppendError) → IsOther result → (IsLost old → result ≡ Err Lost) → MayGoOn old
was_usable old result other lost = not_lost old.is_lost (λ is. subst IsOther (lost is) other)

-- a restart reads what it might have read before, or the group's requests behind those from before, or none of them
pub disk_passes : {D : Type 0} (seen : D → List ℕ) (may_leave : D → List ℕ → Type 0) (moment : D → ℕ) (left_since : D → ℕ → List ℕ → Type 0) (old new : Disk D) (group : List (List ℕ))
    (told requests : List Request) → MayGoOn old.journal
    → LeavesOnly moment left_since old.journal.device new.journal.device (IsFileBeforeOrAfter (recovered_texts (seen old.journal.device)) group)
    → Stands seen may_leave old told → Records old.form requests group
    → Passes (λ (disk : Disk D). moment disk.journal.device) (λ disk t c. MayRead (left_since disk.journal.device) t c) old new (λ c. MayGoOn old.journal × IsBeforeOrAfter told requests c)
disk_passes {D = D} seen may_leave moment left_since old new group told requests go leaves stands records = record {
  later = leaves.later;
  before = λ t c earlier read. by_time t c read (leaves.before t read.file earlier read.left);
} where
  before : List (List ℕ)
  before = recovered_texts (seen old.journal.device)

  -- other lines that are these tell what these do
  by_same : (file : List ℕ) (c : List Request) → ((other : List Request) → IsTold (recovered_texts file) other → other ≡ c) → (lines : List (List ℕ)) (one : List Request)
      → recovered_texts file ≡ lines → IsToldIn old.form lines one → c ≡ one
  by_same file c is lines one same tells =
      let told_in : IsToldIn old.form (recovered_texts file) one = subst (λ (w : List (List ℕ)). IsToldIn old.form w one) (sym same) tells in
      sym (is one (old.form, told_in))

  by_lines : (file : List ℕ) (c : List Request) → ((other : List Request) → IsTold (recovered_texts file) other → other ≡ c)
      → (recovered_texts file ≡ before) ⊎ (recovered_texts file ≡ before ++ group) → IsBeforeOrAfter told requests c
  by_lines file c is (inl same) = inl (by_same file c is stands.lines told (same ∙ stands.stands.now) stands.is_told)
  by_lines file c is (inr same) =
      inr (by_same file c is (stands.lines ++ group) (told ++ requests) (same ∙ ap (λ w. w ++ group) stands.stands.now)
      (told_more old.form stands.lines group told requests stands.is_told records))

  by_time : (t : ℕ) (c : List Request) → (read : MayRead (left_since new.journal.device) t c)
      → left_since old.journal.device t read.file ⊎ IsFileBeforeOrAfter (recovered_texts (seen old.journal.device)) group read.file
      → MayRead (left_since old.journal.device) t c ⊎ (MayGoOn old.journal × IsBeforeOrAfter told requests c)
  by_time t c read (inl left) = inl (record { file = read.file; left = left; is_told = read.is_told })
  by_time t c read (inr may) = inr (go, by_lines read.file c read.is_told may.lines)

-- nothing was asked of the journal
still_passes : {D : Type 0} (moment : D → ℕ) (left_since : D → ℕ → List ℕ → Type 0) (old new : Disk D) (P : List Request → Type 0) → new.journal ≡ old.journal
    → Passes (λ (disk : Disk D). moment disk.journal.device) (λ disk t c. MayRead (left_since disk.journal.device) t c) old new P
still_passes {D = D} moment left_since old new P same = record {
  later = omega (arith, ap (λ (j : Journal D). moment j.device) same);
  before = λ t c earlier read. inl (subst (λ (j : Journal D). MayRead (left_since j.device) t c) same read);
}

-- the same after an append that failed
pub failed_passes : {D : Type 0} (seen : D → List ℕ) (may_leave : D → List ℕ → Type 0) (moment : D → ℕ) (left_since : D → ℕ → List ℕ → Type 0) (old new : Disk D)
    (group : List (List ℕ)) (told requests : List Request) (error : AppendError) → (IsRefusal error → new.journal ≡ old.journal)
    → (IsLost old.journal → failed error ≡ failed Lost)
    → (MayGoOn old.journal → LeavesOnly moment left_since old.journal.device new.journal.device (IsFileBeforeOrAfter (recovered_texts (seen old.journal.device)) group))
    → (MayGoOn old.journal → Stands seen may_leave old told) → Records old.form requests group
    → Passes (λ (disk : Disk D). moment disk.journal.device) (λ disk t c. MayRead (left_since disk.journal.device) t c) old new (λ c. MayGoOn old.journal × IsBeforeOrAfter told requests c)
failed_passes seen may_leave moment left_since old new group told requests (NotWritten error) refused lost leaves stands tells =
    let go = was_usable old.journal (Err (NotWritten error)) tt lost in
    disk_passes seen may_leave moment left_since old new group told requests go (leaves go) (stands go) tells
failed_passes seen may_leave moment left_since old new group told requests (Unknown error) refused lost leaves stands tells =
    let go = was_usable old.journal (Err (Unknown error)) tt lost in
    disk_passes seen may_leave moment left_since old new group told requests go (leaves go) (stands go) tells
failed_passes seen may_leave moment left_since old new group told requests Full refused lost leaves stands tells = still_passes moment left_since old new _ (refused tt)
failed_passes seen may_leave moment left_since old new group told requests Lost refused lost leaves stands tells = still_passes moment left_since old new _ (refused tt)

-- a line more tells a request more
pub told_next : (group more : List (List ℕ)) (requests : List Request) (index : ℕ) (request : Request) (text : List ℕ) → AllZip Tells group (take index requests)
    → index < length requests → more ≡ group ++ text ∷ [] → Tells text request → request ≡ get_or requests index request → AllZip Tells more (take (index + 1) requests)
told_next group more requests index request text tells within is one same =
    let Told : List Request → Type 0 = λ w. AllZip Tells more w in
    let Lines : List (List ℕ) → Type 0 = λ w. AllZip Tells w (take index requests ++ request ∷ []) in
    let both : AllZip Tells (group ++ text ∷ []) (take index requests ++ request ∷ []) = zip_append Tells group (text ∷ []) (take index requests) (request ∷ []) tells (one, tt) in
    let longer : take index requests ++ request ∷ [] ≡ take (index + 1) requests =
    ap (λ r. take index requests ++ r ∷ []) same ∙ sym (take_more requests index request within) in
    subst Told longer (subst Lines (sym is) both)

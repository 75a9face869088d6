-- A file that is made a journal, and its form.
use Rattle.std.proofs.Common.{◌≡◌, ◌⊎◌, inl, inr, ℕ, suc, ◌<◌, ◌≤◌, List, [], ◌∷◌, ◌++◌, length, refl, sym, ap, ◌∙◌, subst, arith, append_assoc}
use Rattle.mds_table.specs.Json.{max_bytes}
use Rattle.mds_journal.specs.Lines.{HasNoFeed, recovered_texts, open_lines}
use Rattle.mds_journal.specs.Device.{LeavesOnly, Only, Untouched}
use Rattle.mds_journal.specs.Opening.{IsTooLong, KeepsLines}
use Rattle.mds_journal.specs.declared.fault.JournalFault.TheVariants.{Form, BadLine, TooLong, Refused, Damaged}
use Rattle.mds_journal.proofs.LineLemmas.{parts}
use Rattle.mds_journal.proofs.MomentLemmas.{started, weaker, and_then, after_none}
use Rattle.mds_journal.proofs.RepairLemmas.{keeps_itself}
use Rattle.mds_groups.specs.Form.{first_line, header}
use Rattle.mds_groups.specs.declared.fault.GroupFault.TheVariants.{Damaged as DamagedGroup, Journal as InJournal}
use Rattle.mds_groups.specs.declared.form.JournalForm.{JournalForm}
use Rattle.mds_groups.specs.declared.form.JournalForm.TheVariants.{Plain, Checked}
use Rattle.mds_follow.specs.Disk.{MayBeBegun, new_form}
use Rattle.mds_follow.specs.Reading.{IsBlank, IsFormFault, IsOpenFault, IsJournalFault, KeepsOrBegins, StaysOrBegins}
use Rattle.mds_follow.specs.declared.start_fault.StartFault.{StartFault}
use Rattle.mds_follow.specs.declared.start_fault.StartFault.TheVariants.{Memory, Device, Journal, Shared, CutOff}

-- how a file is made a journal
module _ {D : Type 0} (seen : D → List ℕ) (may_leave : D → List ℕ → Type 0) (moment : D → ℕ) (left_since : D → ℕ → List ℕ → Type 0) where
  -- what a crash may leave while a journal is opened
  abbrev pub MayBecome : D → List ℕ → Type 0
  MayBecome device c = may_leave device c ⊎ KeepsOrBegins (seen device) c

  -- what a crash may leave while the form is written
  abbrev pub MayBegin : D → List ℕ → Type 0
  MayBegin device c = may_leave device c ⊎ MayBeBegun c

  -- a run, and then a call that changed nothing
  then_none : (old mid new : D) (P : List ℕ → Type 0) → LeavesOnly moment left_since old mid P → Untouched seen may_leave moment left_since mid new
      → LeavesOnly moment left_since old new P
  then_none old mid new P leaves none = record {
    later = omega (arith, leaves.later, none.time);
    each = λ c left. leaves.each c (none.past (moment old) c left);
    before = λ t c le left. leaves.before t c le (none.past t c left);
  }

  -- the form is written into a blank file
  pub form_leaves : (device opened closed made : D) → IsBlank (seen device) → seen opened ≡ seen device → LeavesOnly moment left_since device opened (may_leave device)
      → LeavesOnly moment left_since opened closed (KeepsLines (seen opened)) → LeavesOnly moment left_since closed made MayBeBegun
      → LeavesOnly moment left_since device made (MayBegin device)
  form_leaves device opened closed made blank same opens closes writes =
      let nothing : recovered_texts (seen opened) ≡ [] = ap recovered_texts same ∙ blank.none in
      and_then moment left_since device opened made (MayBegin device) (weaker moment left_since device opened (may_leave device) (MayBegin device) (λ c may. inl may) opens)
      (and_then moment left_since opened closed made (MayBegin device)
      (weaker moment left_since opened closed (KeepsLines (seen opened)) (MayBegin device) (λ c keeps. inr (inl (keeps.lines ∙ nothing))) closes)
      (weaker moment left_since closed made MayBeBegun (MayBegin device) (λ c may. inr may) writes))

  -- a blank file was found, and made a journal
  pub begun_leaves : (device mid made : D) → IsBlank (seen device) → Untouched seen may_leave moment left_since device mid
      → LeavesOnly moment left_since mid made (MayBegin mid) → LeavesOnly moment left_since device made (MayBecome device)
  begun_leaves device mid made blank none leaves =
      after_none moment left_since seen may_leave device mid made (MayBecome device) none (weaker moment left_since mid made (MayBegin mid) (MayBecome device) becomes leaves) where
        becomes : (c : List ℕ) → MayBegin mid c → MayBecome device c
        becomes c (inl may) = inl (none.outcomes c may)
        becomes c (inr (inl nothing)) = inr (inl (nothing ∙ sym blank.none))
        becomes c (inr (inr form)) = inr (inr (blank.none, form))

  -- nothing was done to it
  pub same_leaves : (device mid : D) → ((c : List ℕ) → left_since mid (moment mid) c → may_leave mid c) → Untouched seen may_leave moment left_since device mid
      → LeavesOnly moment left_since device mid (MayBecome device)
  same_leaves device mid only none =
      after_none moment left_since seen may_leave device mid mid (MayBecome device) none
      (started moment left_since mid (MayBecome device) (λ c left. inl (none.outcomes c (only c left))))

  -- a call that changed nothing
  pub untouched_self : (device : D) → Untouched seen may_leave moment left_since device device
  untouched_self device = record { file = refl; outcomes = λ c left. left; time = refl; past = λ t c left. left }

  -- a file that is all on the disk, to which nothing was done
  pub keeps_all : (device new : D) → Only (seen device) (may_leave device) → ((c : List ℕ) → left_since new (moment new) c → may_leave new c)
      → Untouched seen may_leave moment left_since device new → LeavesOnly moment left_since device new (KeepsLines (seen device))
  keeps_all device new durable only none =
      after_none moment left_since seen may_leave device new new (KeepsLines (seen device)) none
      (started moment left_since new (KeepsLines (seen device))
      (λ c left. subst (λ (w : List ℕ). KeepsLines (seen device) w) (sym (durable c (none.outcomes c (only c left)))) (keeps_itself (seen device))))

  -- nothing was done to it, and then a run that keeps its lines
  pub then_keeps : (device mid new : D) → Untouched seen may_leave moment left_since device mid → LeavesOnly moment left_since mid new (KeepsLines (seen mid))
      → LeavesOnly moment left_since device new (KeepsLines (seen device))
  then_keeps device mid new none leaves =
      after_none moment left_since seen may_leave device mid new (KeepsLines (seen device)) none
      (subst (λ (w : List ℕ). LeavesOnly moment left_since mid new (KeepsLines w)) none.file leaves)

  -- the form wasn't written: the file wasn't opened
  pub not_opened : (device opened : D) → LeavesOnly moment left_since device opened (may_leave device) → LeavesOnly moment left_since device opened (MayBegin device)
  not_opened device opened opens = weaker moment left_since device opened (may_leave device) (MayBegin device) (λ c may. inl may) opens

  -- or its end wasn't closed
  pub not_closed : (device opened closed : D) → IsBlank (seen device) → seen opened ≡ seen device → LeavesOnly moment left_since device opened (may_leave device)
      → LeavesOnly moment left_since opened closed (KeepsLines (seen opened)) → LeavesOnly moment left_since device closed (MayBegin device)
  not_closed device opened closed blank same opens closes =
      let nothing : recovered_texts (seen opened) ≡ [] = ap recovered_texts same ∙ blank.none in
      and_then moment left_since device opened closed (MayBegin device) (not_opened device opened opens)
      (weaker moment left_since opened closed (KeepsLines (seen opened)) (MayBegin device) (λ c keeps. inr (inl (keeps.lines ∙ nothing))) closes)

  -- it has its form, and wasn't opened
  pub not_read : (device made opened : D) → ((t : ℕ) (c : List ℕ) → t ≤ moment made → may_leave made c → left_since made t c)
      → LeavesOnly moment left_since device made (MayBecome device) → LeavesOnly moment left_since made opened (may_leave made)
      → LeavesOnly moment left_since device opened (MayBecome device)
  not_read device made opened counts first opens =
      and_then moment left_since device made opened (MayBecome device) first
      (weaker moment left_since made opened (may_leave made) (MayBecome device) (λ c may. first.each c (counts (moment device) c first.later may)) opens)

  -- and then it was opened
  pub open_leaves : (device made opened read : D) → ((t : ℕ) (c : List ℕ) → t ≤ moment made → may_leave made c → left_since made t c)
      → LeavesOnly moment left_since device made (MayBecome device) → LeavesOnly moment left_since made opened (may_leave made)
      → Untouched seen may_leave moment left_since opened read → LeavesOnly moment left_since device read (MayBecome device)
  open_leaves device made opened read counts first opens none =
      and_then moment left_since device made read (MayBecome device) first
      (then_none made opened read (MayBecome device)
      (weaker moment left_since made opened (may_leave made) (MayBecome device) (λ c may. first.each c (counts (moment device) c first.later may)) opens) none)

-- a text without a line feed goes no further than one that ends with it
no_feed_within : (text long rest more : List ℕ) → HasNoFeed long → long ++ rest ≡ text ++ 10 ∷ more → length text < length long → ⊥
no_feed_within text [] rest more none same shorter = absurd (omega (arith, shorter))
no_feed_within [] (x ∷ long) rest more none same shorter = none 0 0 (omega arith) (cc same)
no_feed_within (t ∷ text) (x ∷ long) rest more none same shorter =
    no_feed_within text long rest more (λ k d below. none (suc k) d (omega (arith, below))) (cc same) (omega (arith, shorter))

-- a first line that counts isn't too long
not_too_long : (limit : ℕ) (bytes text : List ℕ) (texts : List (List ℕ)) → recovered_texts bytes ≡ text ∷ texts → length text ≤ limit → IsTooLong limit bytes → ⊥
not_too_long limit bytes text texts is short long =
    let of = parts bytes in
    let lines : bytes ≡ open_lines (text ∷ texts) ++ of.end = of.split ∙ ap (λ w. open_lines w ++ of.end) is in
    let same : 32 ∷ (long.0 ++ long.1) ≡ 32 ∷ (text ++ 10 ∷ open_lines texts) ++ of.end = sym long.2 ∙ lines in
    let tails : long.0 ++ long.1 ≡ (text ++ 10 ∷ open_lines texts) ++ of.end = cc same in
    let split : long.0 ++ long.1 ≡ text ++ 10 ∷ (open_lines texts ++ of.end) = tails ∙ append_assoc text (10 ∷ open_lines texts) of.end in
    no_feed_within text long.0 long.1 (open_lines texts ++ of.end) long.3 split (omega (arith, short, long.4))

-- the lines before the first group begin with the one that names the form, which isn't too long
header_first : (form : JournalForm) → (rest : List (List ℕ)) × (header form ≡ first_line form ∷ rest)
header_first Plain = ([], refl)
header_first Checked = (_, refl)

short_first : (form : JournalForm) → length (first_line form) ≤ max_bytes
short_first Plain = omega arith
short_first Checked = omega arith

-- the fault of a first line that was made is none
none_of_made : (made : List ℕ) (fault : StartFault) → recovered_texts made ≡ header new_form → IsFormFault made fault → IsJournalFault fault → ⊥
none_of_made made Memory is why journal = journal
none_of_made made Device is why journal = journal
none_of_made made Shared is why journal = journal
none_of_made made CutOff is why journal = journal
none_of_made made (Journal (DamagedGroup line)) is why journal = why
none_of_made made (Journal (InJournal Form)) is why journal = let first = header_first new_form in why new_form first.0 (is ∙ first.1)
none_of_made made (Journal (InJournal (TooLong line))) is why journal =
    let first = header_first new_form in
    not_too_long max_bytes made (first_line new_form) first.0 (is ∙ first.1) (short_first new_form) why.1
none_of_made made (Journal (InJournal (BadLine line))) is why journal = why
none_of_made made (Journal (InJournal (Refused line))) is why journal = why
none_of_made made (Journal (InJournal Damaged)) is why journal = why

-- where the file is no journal, it is as it was
pub stays : (file made : List ℕ) (fault : StartFault) → StaysOrBegins file made → IsFormFault made fault → IsJournalFault fault → made ≡ file
stays file made fault (inl same) why journal = same
stays file made fault (inr begins) why journal = absurd (none_of_made made fault begins.1 why journal)

-- and its fault is that of the file as it was
pub open_fault : (file made : List ℕ) (fault : StartFault) → StaysOrBegins file made → (file ≡ [] → recovered_texts made ≡ header new_form) → IsFormFault made fault → IsOpenFault file fault
open_fault file made Memory kept empty why = tt
open_fault file made Device kept empty why = tt
open_fault file made Shared kept empty why = absurd why
open_fault file made CutOff kept empty why = absurd why
open_fault file made (Journal (DamagedGroup line)) kept empty why = absurd why
open_fault file made (Journal (InJournal Form)) kept empty why =
    let same = stays file made (Journal (InJournal Form)) kept why tt in
    let first = header_first new_form in
    (λ none. why new_form first.0 (empty none ∙ first.1), λ form lines is. why form lines (ap recovered_texts same ∙ is))
open_fault file made (Journal (InJournal (TooLong line))) kept empty why =
    let fault = Journal (InJournal (TooLong line)) in
    subst (λ (w : List ℕ). IsFormFault w fault) (stays file made fault kept why tt) why
open_fault file made (Journal (InJournal (BadLine line))) kept empty why = absurd why
open_fault file made (Journal (InJournal (Refused line))) kept empty why = absurd why
open_fault file made (Journal (InJournal Damaged)) kept empty why = absurd why

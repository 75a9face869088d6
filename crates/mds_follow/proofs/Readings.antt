-- How far a journal was read at a start, group by group.
use Rattle.std.proofs.Common.{◌≡◌, ◌≢◌, inl, inr, ℕ, ◌+◌, ◌≤◌, Vec, Global, List, [], ◌∷◌, ◌++◌, length, Option, Some, None, refl, sym, ap, ◌∙◌, subst, arith, append_assoc, append-nil, length-append}
use Rattle.mds_table.specs.Json.{max_bytes}
use Rattle.mds_journal.specs.Lines.{recovered_texts}
use Rattle.mds_journal.specs.Opening.{IsTooLong, number_of, unread_bytes}
use Rattle.mds_journal.specs.declared.device.DeviceError.TheVariants as device
use Rattle.mds_journal.specs.declared.opening.Opening.{Opening}
use Rattle.mds_journal.specs.declared.opening.OpenError.{OpenError}
use Rattle.mds_journal.specs.declared.opening.OpenError.TheVariants as opening
use Rattle.mds_journal.specs.declared.fault.JournalFault.TheVariants.{Form, BadLine, TooLong, Refused, Damaged as Torn}
use Rattle.mds_groups.specs.Form.{first_line, texts_in, IsJournal}
use Rattle.mds_groups.specs.Entries.{numbers_from, AreEntries}
use Rattle.mds_groups.specs.Laws.{TellsTexts}
use Rattle.mds_groups.specs.Stream.{handed_on, texts_of, HasTaken, IsEndFault, IsLineFault, Refuses, Takes}
use Rattle.mds_groups.specs.declared.fault.GroupFault.{GroupFault}
use Rattle.mds_groups.specs.declared.fault.GroupFault.TheVariants.{Damaged, Journal as InJournal}
use Rattle.mds_groups.specs.declared.form.JournalForm.{JournalForm}
use Rattle.mds_groups.specs.declared.stream.GroupError.{GroupError}
use Rattle.mds_groups.specs.declared.stream.GroupError.TheVariants as group
use Rattle.mds_groups.specs.declared.stream.GroupStream.{GroupStream}
use Rattle.mds_groups.specs.declared.stream.WholeGroup.{WholeGroup}
use Rattle.mds_groups.proofs.EntryLemmas.{entries_longer, few_texts, first_names, first_not_damaged, front_of, group_stands}
use Rattle.mds_groups.proofs.JournalLemmas.{texts_more}
use Rattle.mds_follow.specs.Reading.{group_fault, line_fault, HasForm, HasFront, HasNoMore, HasTexts, IsFormFault, StopsBehind}
use Rattle.mds_follow.specs.declared.reader.RequestReader.{RequestReader}
use Rattle.mds_groups.specs.Behind.{CountedOnce}
use Rattle.mds_follow.specs.End.{end_of, IsHurtEnd}
use Rattle.mds_follow.specs.declared.start_fault.StartFault.{StartFault}
use Rattle.mds_follow.specs.declared.start_fault.StartFault.TheVariants.{Journal, Memory, Device, Shared, CutOff}

-- a reader that was read on
abbrev pub reader_with : {D : Type 0} → RequestReader D → Opening D → GroupStream → Vec ℕ Global → RequestReader D
reader_with old opening groups line = record { opening = opening; alloc = old.alloc; groups = groups; line = line; group = old.group }

module _ {D : Type 0} (seen : D → List ℕ) (is_true : D → Type 0) where
  -- behind the first line nothing is read
  pub first_texts : (reader : RequestReader D) → HasForm seen is_true (seen reader.opening.device) reader → HasTexts seen is_true reader []
  first_texts reader form = record {
    lines = first_line form.0 ∷ [];
    groups = form.1.groups;
    taken = form.1.taken;
    number = form.1.number;
    begun = λ none. absurd (cc none);
    texts_are = form.1.none;
    given = form.1.given;
  }

  -- there are no more texts than lines
  pub few_read_texts : (reader : RequestReader D) (texts : List (List ℕ)) → HasTexts seen is_true reader texts → length texts ≤ number_of reader.opening
  few_read_texts reader texts has =
      omega (arith, few_texts reader.groups has.lines has.groups has.taken, has.number, ap (λ (w : List (List ℕ)). length w) has.texts_are)

  -- the first line was taken
  pub form_taken : (old new : RequestReader D) (line : List ℕ) (next : Option WholeGroup) → HasTaken old.groups [] [] → number_of old.opening ≡ 0
      → number_of new.opening ≡ number_of old.opening + 1
      → (is_true new.opening.device → recovered_texts (unread_bytes seen old.opening) ≡ line ∷ recovered_texts (unread_bytes seen new.opening))
      → Takes old.groups new.groups 0 line next → HasForm seen is_true (unread_bytes seen old.opening) new
  form_taken old new line next none zero number given takes =
      let groups = handed_on next in
      let taken : HasTaken new.groups (line ∷ []) groups = (takes [] [] none refl).0 in
      let first = first_names new.groups line groups taken in (
        first.0,
        record {
          groups = groups;
          taken = subst (λ (w : List ℕ). HasTaken new.groups (w ∷ []) groups) first.1 taken;
          none = first.2;
          number = omega (arith, number, zero);
          given = λ truth. given truth ∙ ap (λ (w : List ℕ). w ∷ recovered_texts (unread_bytes seen new.opening)) first.1;
        },
      )

  -- or not
  pub form_refused : (old : GroupStream) (bytes left line : List ℕ) (error : GroupError) → HasTaken old [] [] → recovered_texts bytes ≡ line ∷ recovered_texts left → Refuses old 0 line error
      → IsFormFault bytes (group_fault error)
  form_refused old bytes left line error none given refuses = by_error error (refuses [] [] none refl) where
    by_error : (error : GroupError) → IsLineFault [] [] line error → IsFormFault bytes (group_fault error)
    by_error group.Memory why = tt
    by_error (group.Fault (Damaged number)) why = absurd (first_not_damaged line number why)
    by_error (group.Fault (InJournal Form)) why = λ form lines is. why.1 form (cc (given, is))
    by_error (group.Fault (InJournal (BadLine number))) why = absurd why
    by_error (group.Fault (InJournal (TooLong number))) why = absurd why
    by_error (group.Fault (InJournal (Refused number))) why = absurd why
    by_error (group.Fault (InJournal Torn)) why = absurd why

  -- the same lines are read, of the same file
  pub still_has : (old new : RequestReader D) (texts : List (List ℕ)) → HasTexts seen is_true old texts → new.groups ≡ old.groups → number_of new.opening ≡ number_of old.opening
      → (is_true new.opening.device → is_true old.opening.device) → (is_true new.opening.device → seen new.opening.device ≡ seen old.opening.device)
      → (is_true new.opening.device → unread_bytes seen new.opening ≡ unread_bytes seen old.opening) → HasTexts seen is_true new texts
  still_has old new texts has groups number was same left = record {
    lines = has.lines;
    groups = has.groups;
    taken = subst (λ (w : GroupStream). HasTaken w has.lines has.groups) (sym groups) has.taken;
    number = number ∙ has.number;
    begun = has.begun;
    texts_are = has.texts_are;
    given = λ truth. ap recovered_texts (same truth) ∙ has.given (was truth) ∙ ap (λ (w : List ℕ). has.lines ++ recovered_texts w) (sym (left truth));
  }

  -- ---- one line more

  module _ (old new : RequestReader D) (line : List ℕ) (before : List (List ℕ)) (has : HasTexts seen is_true old before) (number : number_of new.opening ≡ number_of old.opening + 1)
      (was : is_true new.opening.device → is_true old.opening.device) (same : is_true new.opening.device → seen new.opening.device ≡ seen old.opening.device)
      (given : is_true new.opening.device → recovered_texts (unread_bytes seen old.opening) ≡ line ∷ recovered_texts (unread_bytes seen new.opening)) where
    abbrev lines : List (List ℕ)
    lines = has.lines ++ line ∷ []

    lines_given : is_true new.opening.device → recovered_texts (seen new.opening.device) ≡ lines ++ recovered_texts (unread_bytes seen new.opening)
    lines_given truth =
        ap recovered_texts (same truth) ∙ has.given (was truth) ∙ ap (λ (w : List (List ℕ)). has.lines ++ w) (given truth)
        ∙ sym (append_assoc has.lines (line ∷ []) (recovered_texts (unread_bytes seen new.opening)))

    begun : lines ≢ []
    begun none = absurd (omega (arith, ap (λ (w : List (List ℕ)). length w) none, length-append has.lines (line ∷ [])))

    one_more : (groups : List (List (List ℕ))) (texts : List (List ℕ)) → HasTaken new.groups lines groups → texts_in groups ≡ texts → HasTexts seen is_true new texts
    one_more groups texts taken are = record {
      lines = lines;
      groups = groups;
      taken = taken;
      number = omega (arith, number, has.number, length-append has.lines (line ∷ []));
      begun = begun;
      texts_are = are;
      given = lines_given;
    }

    -- that ends no group
    pub line_taken : Takes old.groups new.groups (number_of old.opening) line None → HasTexts seen is_true new before
    line_taken takes =
        let taken = takes has.lines has.groups has.taken has.number in
        one_more has.groups before (subst (HasTaken new.groups lines) (append-nil has.groups) taken.0) has.texts_are

    -- that ends one
    pub group_taken : (group : WholeGroup) → Takes old.groups new.groups (number_of old.opening) line (Some group) → HasTexts seen is_true new (before ++ texts_of group)
    group_taken group takes =
        let taken = takes has.lines has.groups has.taken has.number in
        one_more (has.groups ++ texts_of group ∷ []) (before ++ texts_of group) taken.0
        (texts_more has.groups (texts_of group) ∙ ap (λ (w : List (List ℕ)). w ++ texts_of group) has.texts_are)

    -- and where its texts stand
    pub group_there : (group : WholeGroup) → Takes old.groups new.groups (number_of old.opening) line (Some group) → is_true new.opening.device
        → AreEntries (recovered_texts (seen new.opening.device)) before (texts_of group) (numbers_from group.first (length group.texts.items))
    group_there group takes truth =
        let taken = takes has.lines has.groups has.taken has.number in
        let numbers = numbers_from group.first (length group.texts.items) in
        let stand = group_stands lines has.groups group taken.1 in
        let of_before = subst (λ (w : List (List ℕ)). AreEntries lines w (texts_of group) numbers) has.texts_are stand in
        subst (λ (w : List (List ℕ)). AreEntries w before (texts_of group) numbers) (sym (lines_given truth))
        (entries_longer lines (recovered_texts (unread_bytes seen new.opening)) before (texts_of group) numbers of_before)

  -- ---- why no more is read

  -- what was read of a file is the front of a journal
  abbrev front_read : (old : RequestReader D) (file : List ℕ) (before : List (List ℕ)) → is_true old.opening.device → file ≡ seen old.opening.device → (has : HasTexts seen is_true old before)
      → HasFront file before has.lines (unread_bytes seen old.opening)
  front_read old file before was same has = record {
    groups = has.groups;
    front = front_of old.groups has.lines has.groups has.taken;
    texts_are = has.texts_are;
    given = ap recovered_texts same ∙ has.given was;
  }

  module _ (old : RequestReader D) (file : List ℕ) (before : List (List ℕ)) (has : HasTexts seen is_true old before) (was : is_true old.opening.device)
      (same : file ≡ seen old.opening.device) where
    -- the next line is too long
    long_stops : (line : ℕ) → line ≡ number_of old.opening → IsTooLong max_bytes (unread_bytes seen old.opening) → StopsBehind file before (Journal (InJournal (TooLong line)))
    long_stops line is long = (has.lines, unread_bytes seen old.opening, front_read old file before was same has, is ∙ has.number, long)

    -- it can't be handed out
    pub open_stops : (number : ℕ) (error : OpenError) → number ≡ number_of old.opening → (error ≡ opening.TooLong → IsTooLong max_bytes (unread_bytes seen old.opening))
        → StopsBehind file before (line_fault number error)
    open_stops number opening.Memory is long = tt
    open_stops number (opening.Device device.Memory) is long = tt
    open_stops number (opening.Device device.Failed) is long = tt
    open_stops number opening.TooLong is long = long_stops number is (long refl)
    open_stops number opening.Full is long = tt
    open_stops number opening.Damaged is long = tt

    -- it goes on with no group
    pub line_stops : (line left : List ℕ) (error : GroupError) → recovered_texts (unread_bytes seen old.opening) ≡ line ∷ recovered_texts left
        → Refuses old.groups (number_of old.opening) line error → StopsBehind file before (group_fault error)
    line_stops line left error given refuses = by_error error (refuses has.lines has.groups has.taken has.number) where
      by_error : (error : GroupError) → IsLineFault has.lines has.groups line error → StopsBehind file before (group_fault error)
      by_error group.Memory why = tt
      by_error (group.Fault (InJournal Form)) why = absurd (has.begun why.0)
      by_error (group.Fault (InJournal (BadLine number))) why = absurd why
      by_error (group.Fault (InJournal (TooLong number))) why = absurd why
      by_error (group.Fault (InJournal (Refused number))) why = absurd why
      by_error (group.Fault (InJournal Torn)) why = absurd why
      by_error (group.Fault (Damaged number)) why = record {
        lines = has.lines;
        left = unread_bytes seen old.opening;
        front = front_read old file before was same has;
        damage = inl (line, recovered_texts left, given, why);
      }

    -- no more lines count, and a group isn't ended
    pub end_stops : (fault : GroupFault) → HasNoMore (unread_bytes seen old.opening)
        → ((lines : List (List ℕ)) (groups : List (List (List ℕ))) → HasTaken old.groups lines groups → number_of old.opening ≡ length lines → IsEndFault lines groups fault)
        → StopsBehind file before (Journal fault)
    end_stops fault none ends = by_fault fault (ends has.lines has.groups has.taken has.number) where
      by_fault : (fault : GroupFault) → IsEndFault has.lines has.groups fault → StopsBehind file before (Journal fault)
      by_fault (InJournal Form) why = absurd (has.begun why)
      by_fault (InJournal (BadLine number)) why = absurd why
      by_fault (InJournal (TooLong number)) why = absurd why
      by_fault (InJournal (Refused number)) why = absurd why
      by_fault (InJournal Torn) why = absurd why
      by_fault (Damaged number) why = record {
        lines = has.lines;
        left = unread_bytes seen old.opening;
        front = front_read old file before was same has;
        damage = inr (inl (none, why));
      }

    -- no more lines count, and a group behind them counted once
    pub hurt_stops : (form : JournalForm) (bytes : List ℕ) (fault : StartFault) → HasNoMore (unread_bytes seen old.opening)
        → ((lines : List (List ℕ)) (groups : List (List (List ℕ))) → HasTaken old.groups lines groups → IsJournal form lines groups)
        → bytes ≡ end_of file → IsHurtEnd form bytes (number_of old.opening) fault → StopsBehind file before fault
    hurt_stops form bytes Memory none whole are why = tt
    hurt_stops form bytes Device none whole are why = tt
    hurt_stops form bytes Shared none whole are why = absurd why
    hurt_stops form bytes CutOff none whole are why = absurd why
    hurt_stops form bytes (Journal (InJournal fault)) none whole are why = absurd why
    hurt_stops form bytes (Journal (Damaged line)) none whole are why = record {
      lines = has.lines;
      left = unread_bytes seen old.opening;
      front = front_read old file before was same has;
      damage = inr (inr (none, why.0 ∙ has.number, (form, whole has.lines has.groups has.taken, subst (CountedOnce form) are why.1)));
    }

    -- no more lines count, and all groups are whole
    pub all_whole : (form : JournalForm) → HasNoMore (unread_bytes seen old.opening)
        → ((lines : List (List ℕ)) (groups : List (List (List ℕ))) → HasTaken old.groups lines groups → IsJournal form lines groups) → TellsTexts form (recovered_texts file) before
    all_whole form none whole =
        let all : recovered_texts file ≡ has.lines =
        ap recovered_texts same ∙ has.given was ∙ ap (λ (w : List (List ℕ)). has.lines ++ w) none ∙ append-nil has.lines in
        record {
          groups = has.groups;
          journal = subst (λ (w : List (List ℕ)). IsJournal form w has.groups) (sym all) (whole has.lines has.groups has.taken);
          told = has.texts_are;
        }

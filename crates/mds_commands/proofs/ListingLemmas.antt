-- What is printed of a journal.
use Rattle.std.proofs.Common.{◌≡◌, ◌∙◌, ℕ, List, Option, Some, None, IfSome, is_some, length, drop, refl, sym, ap, subst}
use Rattle.mds_table.specs.Tables.{Tables}
use Rattle.mds_core.specs.declared.request.Request.{Request}
use Rattle.mds_groups.specs.Form.{IsJournal}
use Rattle.mds_groups.specs.declared.form.JournalForm.{JournalForm}
use Rattle.mds_groups.specs.declared.form.JournalForm.TheVariants.{Plain, Checked}
use Rattle.mds_groups.specs.declared.fault.GroupFault.TheVariants.{Damaged}
use Rattle.mds_groups.proofs.ChangeLemmas.{forms_differ}
use Rattle.mds_journal.specs.Lines.{open_lines}
use Rattle.mds_journal.specs.Stream.{unread_of}
use Rattle.mds_commands.specs.declared.source.Source.{Source}
use Rattle.mds_commands.specs.declared.vehicles.problem.JournalProblem.TheVariants.{NotAJournal}
use Rattle.mds_commands.specs.declared.vehicles.taking.TakenJournal.{TakenJournal}
use Rattle.mds_commands.specs.Files.{Files}
use Rattle.mds_commands.specs.Gate.{HasMoreLines, HasNoneMore, HasOpenBehind, IsHurtBehind, IsSoundUnless}
use Rattle.mds_commands.specs.Listing.{CameToTaken, HasHistory, HasJournal, HasSoundGate, IsGateProblem, IsTakenIn, PrintsBy}
use Rattle.mds_commands.specs.ListingText.{IsRosterOfSome, printed_text}
use Rattle.mds_commands.specs.Roster.{IsRosterOf}
use Rattle.mds_commands.specs.Taking.{Gives}
use Rattle.mds_commands.proofs.GateLemmas.{left_of}

-- lines are a journal of one form
one_form : (form : JournalForm) (lines : List (List ℕ)) (groups : List (List (List ℕ))) → IsJournal form lines groups → IsJournal Checked lines groups → form ≡ Checked
one_form Checked lines groups one other = refl
one_form Plain lines groups one other = absurd (forms_differ (cc (sym other.lines_are ∙ one.lines_are)))

-- what is known of the bytes that are left is known of those behind the lines
behind_lines : (known left : Option (List ℕ)) (lines : List (List ℕ)) (P : List ℕ → Type 0) → Gives known lines left → IfSome left P
    → IfSome known (λ bytes. P (drop (length (open_lines lines)) bytes))
behind_lines None left lines P given is = tt
behind_lines (Some bytes) None lines P given is = absurd given
behind_lines (Some bytes) (Some rest) lines P given is = subst P (sym (left_of lines bytes rest given.0)) is

if_some : (known : Option (List ℕ)) (P Q : List ℕ → Type 0) → ((bytes : List ℕ) → P bytes → Q bytes) → IfSome known P → IfSome known Q
if_some None P Q to is = tt
if_some (Some bytes) P Q to is = to bytes is

module _ {T R : Type 0} (files : Files T R) (journal : TakenJournal R) (came : CameToTaken files journal) where
  pub is_in : IsTakenIn files.file_bytes files.file came.0 journal
  is_in = came.2

  -- the roster is that of a history
  pub came_to_some : IsRosterOfSome journal.taken.roster
  came_to_some = (came.0, is_in.2.by.history, is_in.2.by.roster_is)

  is_of : HasJournal files is_in.2.by.lines is_in.2.by.groups is_in.2.by.history
  is_of = (came.0, came.1, (is_in.0, is_in.1, is_in.2.by.told), is_in.2.by.roster_is.lawful)

  -- the history is the journal's
  pub came_to_history : (history : List Request) × HasHistory files history
  came_to_history =
      let by = is_in.2.by in
      (by.history, (by.lines, by.groups, is_of))

  -- the gate wasn't hurt
  pub came_to_sound : (again : Source R) → IsSoundUnless (HasMoreLines files.file_bytes again journal.taken.lines) journal.form (unread_of files.file_bytes journal.behind)
      → HasSoundGate files (Some again) is_in.2.by.lines is_in.2.by.groups
  came_to_sound again sound =
      let by = is_in.2.by in
      let known = files.file_bytes is_in.0 in
      let left = unread_of files.file_bytes journal.behind in
      let more : HasMoreLines files.file_bytes again journal.taken.lines → HasMoreLines files.file_bytes again (length by.lines) = subst (HasMoreLines files.file_bytes again) by.line_count in (
        is_in.0,
        is_in.1,
        behind_lines known left by.lines (λ bytes. IsJournal Checked by.lines by.groups → HasOpenBehind bytes → HasMoreLines files.file_bytes again (length by.lines)) is_in.2.left
            (sound_behind left by.lines by.groups (HasMoreLines files.file_bytes again journal.taken.lines) (HasMoreLines files.file_bytes again (length by.lines)) more is_in.2.form sound),
      ) where
        sound_behind : (left : Option (List ℕ)) (lines : List (List ℕ)) (groups : List (List (List ℕ))) (P Q : Type 0) → (P → Q) → IsJournal journal.form lines groups → IsSoundUnless P journal.form left
            → IfSome left (λ bytes. IsJournal Checked lines groups → HasOpenBehind bytes → Q)
        sound_behind None lines groups P Q to form sound = tt
        sound_behind (Some bytes) lines groups P Q to form sound = λ checked found. to (sound (one_form journal.form lines groups form checked) found)

  -- it was
  pub came_to_hurt : (again : Source R) → IsHurtBehind journal.form (unread_of files.file_bytes journal.behind)
      → HasNoneMore files.file_bytes again.reader journal.taken.lines → IsGateProblem files (Some again) (NotAJournal (Damaged journal.taken.lines))
  came_to_hurt again hurt none =
      let by = is_in.2.by in
      let checked : IsJournal Checked by.lines by.groups = subst (λ form. IsJournal form by.lines by.groups) hurt.0 is_in.2.form in (
        by.lines,
        by.groups,
        by.history,
        is_of,
        subst (λ n. HasNoneMore files.file_bytes again.reader n) by.line_count none,
        is_in.0,
        is_in.1,
        record {
          counted = by.told.counted;
          journal = checked;
          behind = behind_lines (files.file_bytes is_in.0) (unread_of files.file_bytes journal.behind) by.lines HasOpenBehind is_in.2.left hurt.1;
        },
        ap (λ (n : ℕ). NotAJournal (Damaged n)) by.line_count,
      )

  -- a text is printed of the journal
  pub came_to_text : (again : Option (Source R)) (P : List ℕ → Type 0) → HasSoundGate files again is_in.2.by.lines is_in.2.by.groups
      → ((tables : Tables) (history : List Request) → IsRosterOf tables history journal.taken.roster → P (printed_text (is_some again) history journal.taken.lines journal.taken.groups))
      → PrintsBy files again P
  came_to_text again P sound prints =
      let by = is_in.2.by in
      let text = prints came.0 by.history by.roster_is in
      let counted = subst (λ n. P (printed_text (is_some again) by.history n journal.taken.groups)) by.line_count text in (
        by.lines,
        by.groups,
        by.history,
        is_of,
        sound,
        subst (λ n. P (printed_text (is_some again) by.history (length by.lines) n)) by.group_count counted,
      )

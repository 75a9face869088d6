-- How far the texts of a journal's groups were handed out.
use Rattle.std.proofs.Common.{◌≡◌, ◌∙◌, inl, inr, ℕ, zero, suc, ◌+◌, ◌-◌, ◌<◌, add-one, List, [], ◌∷◌, ◌++◌, length, get_or, drop, drop-cons, All, Vec, Global, Option, Some, None, sym, ap, subst, arith, append_assoc, append-nil, length-append}
use Rattle.std.proofs.Math.Seq.{drop-nil, drop-length}
use Rattle.std.proofs.lemmas.List.{length-map}
use Rattle.std.proofs.lemmas.List.Elements.{All-nil, All-cons, All-head, All-tail, All-push}
use Rattle.std.specs.Io.KnownBytes.{Keeps}
use Rattle.std.specs.List.{AllZip}
use Rattle.mds_table.specs.Json.{max_bytes}
use Rattle.mds_core.specs.declared.request.Request.{Request}
use Rattle.mds_entries.specs.Entry.{IsFaultOfLine, Tells}
use Rattle.mds_entries.specs.declared.entry.EntryFault.{EntryFault}
use Rattle.mds_entries.specs.declared.entry.EntryFault.TheVariants as entry
use Rattle.mds_groups.specs.Entries.{numbers_from, AreEntries, IsEntryAt}
use Rattle.mds_groups.specs.Form.{check_of, group_lines, texts_in, IsJournal}
use Rattle.mds_groups.specs.Stream.{texts_held, texts_of, HasTaken, IsEndFault, IsLineFault, Refuses, Takes}
use Rattle.mds_groups.specs.declared.fault.GroupFault.{GroupFault}
use Rattle.mds_groups.specs.declared.fault.GroupFault.TheVariants.{Damaged, Journal}
use Rattle.mds_groups.specs.declared.form.JournalForm.{JournalForm}
use Rattle.mds_groups.specs.declared.form.JournalForm.TheVariants.{Plain, Checked}
use Rattle.mds_groups.specs.declared.stream.GroupError.{GroupError}
use Rattle.mds_groups.specs.declared.stream.GroupError.TheVariants as group
use Rattle.mds_groups.specs.declared.stream.WholeGroup.{WholeGroup}
use Rattle.mds_groups.proofs.EntryLemmas.{front_of, group_stands}
use Rattle.mds_groups.proofs.JournalLemmas.{texts_more}
use Rattle.mds_journal.specs.Lines.{open_lines}
use Rattle.mds_journal.specs.Stream.{CountsFirst, IsStreamFault, StandsForNothing, unread_of}
use Rattle.mds_journal.specs.declared.fault.JournalFault.TheVariants as journal
use Rattle.mds_journal.specs.declared.stream.StreamError.{StreamError}
use Rattle.mds_journal.specs.declared.stream.StreamError.TheVariants as stream
use Rattle.mds_journal.proofs.LineLemmas.{open_lines-append}
use Rattle.mds_retention.specs.declared.error.LinesError.TheVariants.{Fault}
use Rattle.mds_retention.specs.declared.place.Place.{Place}
use Rattle.mds_retention.specs.declared.texts.TextLines.{TextLines}
use Rattle.mds_retention.specs.Place.{HasAll, IsAt}
use Rattle.mds_retention.specs.Telling.{AreLines, Gives, HasTexts, IsJournalFault, IsReadTo, IsShort, StopsBehind, entry_error, group_error, stream_error}
use Rattle.mds_retention.specs.Texts.{text_of, number_of, to_come, HasRead, IsNext}
use Rattle.mds_retention.proofs.Telling.{gives_all, gives_first, gives_kept, gives_more}

-- ---- lists

all_before : {X : Type 0} (P : X → Type 0) (xs ys : List X) → All P (xs ++ ys) → All P xs
all_before P [] ys are = All-nil P
all_before P (x ∷ xs) ys are = All-cons P x xs (All-head P x (xs ++ ys) are) (all_before P xs ys (All-tail P x (xs ++ ys) are))

all_behind : {X : Type 0} (P : X → Type 0) (xs ys : List X) → All P (xs ++ ys) → All P ys
all_behind P [] ys are = are
all_behind P (x ∷ xs) ys are = all_behind P xs ys (All-tail P x (xs ++ ys) are)

pub held_length : (texts : List (Vec ℕ Global)) → length (texts_held texts) ≡ length texts
held_length texts = length-map texts (λ (text : Vec ℕ Global). text.items)

-- the text of a vector
pub held_at : (texts : List (Vec ℕ Global)) (at : ℕ) (text : Vec ℕ Global) → at < length texts → text ≡ get_or texts at text → get_or (texts_held texts) at [] ≡ text.items
held_at [] at text within is = absurd (omega (arith, within))
held_at (first ∷ texts) zero text within is = ap (λ (w : Vec ℕ Global). w.items) (sym is)
held_at (first ∷ texts) (suc at) text within is = held_at texts at text (omega (arith, within)) is

-- an entry among lines that aren't too long isn't, either
entry_short : (lines before : List (List ℕ)) (number : ℕ) (text : List ℕ) → IsEntryAt lines before number text → All IsShort lines → IsShort text
entry_short lines before number text at short =
    let texts = at.front ++ text ∷ at.back in
    let in_group = all_behind IsShort at.whole (group_lines at.form texts) (all_before IsShort (at.whole ++ group_lines at.form texts) at.rest (subst (All IsShort) at.split short)) in
    All-head IsShort text at.back (all_behind IsShort at.front (text ∷ at.back) (of_form at.form texts in_group)) where
      of_form : (form : JournalForm) (texts : List (List ℕ)) → All IsShort (group_lines form texts) → All IsShort texts
      of_form Plain texts are = are
      of_form Checked texts are = all_before IsShort texts (check_of texts ∷ []) are

-- ---- places

-- before all lines
pub at_start : (place : Place) → place.bytes ≡ 0 → place.lines ≡ 0 → IsAt [] place
at_start place bytes lines = record { bytes = bytes; count = lines; short = All-nil IsShort }

-- behind one line more
pub at_next : (old new : Place) (lines : List (List ℕ)) (line : List ℕ) → new.bytes ≡ old.bytes + length (open_lines (line ∷ [])) → new.lines ≡ old.lines + 1 → IsShort line → IsAt lines old
    → IsAt (lines ++ line ∷ []) new
at_next old new lines line bytes count short at = record {
  bytes = bytes ∙ ap (λ n. n + length (open_lines (line ∷ []))) at.bytes
      ∙ sym (ap (λ (w : List ℕ). length w) (open_lines-append lines (line ∷ [])) ∙ length-append (open_lines lines) (open_lines (line ∷ [])));
  count = count ∙ ap (λ n. n + 1) at.count ∙ sym (length-append lines (line ∷ []));
  short = All-push IsShort lines line at.short short;
}

module _ {R : Type 0} (remaining : R → Option (List ℕ)) (known : Option (List ℕ)) where
  abbrev left : TextLines R → Option (List ℕ)
  left reader = unread_of remaining reader.lines

  -- all texts of a group were handed out
  pub none_to_come : (reader : TextLines R) → reader.next ≡ length reader.group.texts.items → to_come reader ≡ []
  none_to_come reader done =
      let all : reader.next ≡ length (texts_of reader.group) = done ∙ sym (held_length reader.group.texts.items) in
      ap (λ n. drop n (texts_of reader.group)) all ∙ drop-length (texts_of reader.group)

  -- those of a group with none
  pub none_held : (reader : TextLines R) → reader.group.texts.items ≡ [] → to_come reader ≡ []
  none_held reader none = ap (λ (w : List (Vec ℕ Global)). drop reader.next (texts_held w)) none ∙ drop-nil reader.next

  -- no entries are to come where no texts are
  no_entries : (reader : TextLines R) (lines texts : List (List ℕ)) → to_come reader ≡ []
      → AreEntries lines texts (to_come reader) (numbers_from (reader.group.first + reader.next) (length (to_come reader)))
  no_entries reader lines texts none =
      subst (λ (w : List (List ℕ)). AreEntries lines texts w (numbers_from (reader.group.first + reader.next) (length w))) (sym none) tt

  -- a reader that begins behind lines
  pub begun : (reader : TextLines R) (given : Option (List ℕ)) (lines : List (List ℕ)) (groups : List (List (List ℕ))) → Keeps given (left reader) → Gives known lines given
      → HasTaken reader.groups lines groups → IsAt lines reader.place → reader.group.texts.items ≡ [] → HasRead remaining known reader (texts_in groups)
  begun reader given lines groups keeps gives taken at none =
      let nothing = none_held reader none in
      record {
        lines = lines;
        groups = groups;
        given = gives_kept known given (left reader) lines gives keeps;
        stream = taken;
        at = at;
        told = sym (ap (λ (w : List (List ℕ)). texts_in groups ++ w) nothing ∙ append-nil (texts_in groups));
        entries = no_entries reader lines (texts_in groups) nothing;
      }

  -- what was handed out are the first texts
  pub read_texts : (reader : TextLines R) (texts : List (List ℕ)) → HasRead remaining known reader texts → HasTexts known texts
  read_texts reader texts read = record {
    lines = read.lines;
    groups = read.groups;
    rest = to_come reader;
    counted = (left reader, read.given);
    front = front_of reader.groups read.lines read.groups read.stream;
    told = read.told;
  }

  -- they are all texts of whole groups, where none is to come
  whole_told : (reader : TextLines R) (texts : List (List ℕ)) (read : HasRead remaining known reader texts) → to_come reader ≡ [] → texts_in read.groups ≡ texts
  whole_told reader texts read none = read.told ∙ ap (λ (w : List (List ℕ)). texts ++ w) none ∙ append-nil texts

  -- ---- lines that are read on

  module _ (old new : TextLines R) (texts : List (List ℕ)) (read : HasRead remaining known old texts) (none : to_come old ≡ []) (line : List ℕ) (out : CountsFirst (left old) line (left new))
      (at : IsAt (read.lines ++ line ∷ []) new.place) where
    abbrev lines : List (List ℕ)
    lines = read.lines ++ line ∷ []

    -- one that ends no group
    pub line_taken : Takes old.groups new.groups old.place.lines line None → to_come new ≡ [] → HasRead remaining known new texts
    line_taken takes nothing =
        let taken = takes read.lines read.groups read.stream read.at.count in
        record {
          lines = lines;
          groups = read.groups;
          given = gives_more known (left old) (left new) read.lines line read.given out;
          stream = subst (HasTaken new.groups lines) (append-nil read.groups) taken.0;
          at = at;
          told = whole_told old texts read none ∙ sym (ap (λ (w : List (List ℕ)). texts ++ w) nothing ∙ append-nil texts);
          entries = no_entries new lines texts nothing;
        }

    -- one that ends a group, whose texts come next
    pub group_taken : (group : WholeGroup) → Takes old.groups new.groups old.place.lines line (Some group) → new.group ≡ group → new.next ≡ 0 → HasRead remaining known new texts
    group_taken group takes is first =
        let taken = takes read.lines read.groups read.stream read.at.count in
        let come : to_come new ≡ texts_of group = ap (λ (w : WholeGroup). drop new.next (texts_of w)) is ∙ ap (λ n. drop n (texts_of group)) first in
        let at_first : new.group.first + new.next ≡ group.first = ap (λ (w : WholeGroup). w.first + new.next) is ∙ omega (arith, first) in
        let Entries : List (List ℕ) → ℕ → ℕ → Type 0 = λ (before : List (List ℕ)) (number count : ℕ). AreEntries lines before (texts_of group) (numbers_from number count) in
        let stand : Entries (texts_in read.groups) group.first (length group.texts.items) = group_stands lines read.groups group taken.1 in
        let behind = subst (λ (w : List (List ℕ)). Entries w group.first (length group.texts.items)) (whole_told old texts read none) stand in
        let numbered = subst (λ n. Entries texts n (length group.texts.items)) (sym at_first) behind in
        let counted = subst (λ n. Entries texts (new.group.first + new.next) n) (sym (held_length group.texts.items)) numbered in
        record {
          lines = lines;
          groups = read.groups ++ texts_of group ∷ [];
          given = gives_more known (left old) (left new) read.lines line read.given out;
          stream = taken.0;
          at = at;
          told = texts_more read.groups (texts_of group) ∙ ap (λ (w : List (List ℕ)). w ++ texts_of group) (whole_told old texts read none) ∙ ap (λ (w : List (List ℕ)). texts ++ w) (sym come);
          entries = subst (λ (w : List (List ℕ)). AreEntries lines texts w (numbers_from (new.group.first + new.next) (length w))) (sym come) counted;
        }

  -- ---- the next text

  module _ (old new : TextLines R) (texts : List (List ℕ)) (read : HasRead remaining known old texts) (within : old.next < length old.group.texts.items) (next : new.next ≡ old.next + 1)
      (same : new.group ≡ old.group) where
    abbrev all : List (List ℕ)
    all = texts_of old.group

    abbrev text : List ℕ
    text = get_or all old.next []

    abbrev rest : List (List ℕ)
    rest = drop (suc old.next) all

    come : to_come old ≡ text ∷ rest
    come =
        let within_all : old.next < length all = omega (arith, within, held_length old.group.texts.items) in
        drop-cons all old.next [] within_all

    text_is : text_of new ≡ text
    text_is =
        let at : new.next - 1 ≡ old.next = omega (arith, next) in
        ap (λ (w : WholeGroup). get_or (texts_of w) (new.next - 1) []) same ∙ ap (λ n. get_or all n []) at

    rest_is : to_come new ≡ rest
    rest_is = ap (λ (w : WholeGroup). drop new.next (texts_of w)) same ∙ ap (λ n. drop n all) (next ∙ add-one old.next)

    stand : AreEntries read.lines texts (text ∷ rest) (numbers_from (old.group.first + old.next) (suc (length rest)))
    stand = subst (λ (w : List (List ℕ)). AreEntries read.lines texts w (numbers_from (old.group.first + old.next) (length w))) come read.entries

    pub handed_on : (stream_is : new.groups ≡ old.groups) → new.place ≡ old.place → left new ≡ left old → HasRead remaining known new (texts ++ text_of new ∷ [])
    handed_on stream_is place_is left_is =
        let first : new.group.first + new.next ≡ old.group.first + old.next + 1 = ap (λ (w : WholeGroup). w.first + new.next) same ∙ omega (arith, next) in
        let Behind : List ℕ → List (List ℕ) → ℕ → Type 0 = λ (one : List ℕ) (more : List (List ℕ)) (number : ℕ). AreEntries read.lines (texts ++ one ∷ []) more (numbers_from number (length more)) in
        let behind : Behind text rest (old.group.first + old.next + 1) = stand.1 in
        record {
          lines = read.lines;
          groups = read.groups;
          given = subst (Gives known read.lines) (sym left_is) read.given;
          stream = subst (λ w. HasTaken w read.lines read.groups) (sym stream_is) read.stream;
          at = subst (IsAt read.lines) (sym place_is) read.at;
          told = read.told ∙ ap (λ (w : List (List ℕ)). texts ++ w) come ∙ sym (append_assoc texts (text ∷ []) rest)
              ∙ ap (λ (w : List ℕ). (texts ++ w ∷ []) ++ rest) (sym text_is) ∙ ap (λ (w : List (List ℕ)). (texts ++ text_of new ∷ []) ++ w) (sym rest_is);
          entries = subst (λ (w : List (List ℕ)). Behind (text_of new) w (new.group.first + new.next)) (sym rest_is)
              (subst (λ n. Behind (text_of new) rest n) (sym first) (subst (λ (w : List ℕ). Behind w rest (old.group.first + old.next + 1)) (sym text_is) behind));
        }

    pub is_next : IsNext known texts (number_of new) (text_of new)
    is_next =
        let number : number_of new ≡ old.group.first + old.next = ap (λ (w : WholeGroup). w.first + (new.next - 1)) same ∙ omega (arith, next) in
        let at = subst (IsEntryAt read.lines texts (number_of new)) (sym text_is) (subst (λ n. IsEntryAt read.lines texts n text) (sym number) stand.0) in
        (read.lines, (left old, read.given), at, entry_short read.lines texts (number_of new) (text_of new) at read.at.short)

  -- ---- why no more is read

  module _ (old : TextLines R) (texts : List (List ℕ)) (read : HasRead remaining known old texts) (none : to_come old ≡ []) where
    abbrev read_to : IsReadTo known texts read.lines (left old)
    read_to = record { groups = read.groups; front = front_of old.groups read.lines read.groups read.stream; told = whole_told old texts read none; given = read.given }

    -- the next line can't be handed out
    pub stream_stops : (number : ℕ) (error : StreamError) → IsStreamFault number max_bytes (left old) error → StopsBehind known texts (stream_error old.place.lines error)
    stream_stops number stream.Memory why = tt
    stream_stops number stream.Read why = tt
    stream_stops number (stream.TooLong line) why = (read.lines, left old, read_to, read.at.count, why.1)
    stream_stops number stream.Full why = tt

    -- it goes on with no group
    pub line_stops : (line : List ℕ) (rest : Option (List ℕ)) (error : GroupError) → CountsFirst (left old) line rest → IsShort line → Refuses old.groups old.place.lines line error
        → StopsBehind known texts (group_error error)
    line_stops line rest error out short refuses = by_error error (refuses read.lines read.groups read.stream read.at.count) where
      by_error : (error : GroupError) → IsLineFault read.lines read.groups line error → StopsBehind known texts (group_error error)
      by_error group.Memory why = tt
      by_error (group.Fault (Damaged number)) why = record { lines = read.lines; left = left old; to = read_to; damage = inl (line, rest, out, why) }
      by_error (group.Fault (Journal journal.Form)) why = inr (line, rest, gives_first known (left old) rest read.lines line why.0 read.given out, short, why.1)
      by_error (group.Fault (Journal (journal.BadLine number))) why = absurd why
      by_error (group.Fault (Journal (journal.TooLong number))) why = absurd why
      by_error (group.Fault (Journal (journal.Refused number))) why = absurd why
      by_error (group.Fault (Journal journal.Damaged)) why = absurd why

    -- no more lines count, and a group isn't ended
    pub end_stops : (fault : GroupFault) → AreLines known read.lines
        → ((lines : List (List ℕ)) (groups : List (List (List ℕ))) → HasTaken old.groups lines groups → old.place.lines ≡ length lines → IsEndFault lines groups fault)
        → StopsBehind known texts (Fault fault)
    end_stops fault counted ends = by_fault fault (ends read.lines read.groups read.stream read.at.count) where
      by_fault : (fault : GroupFault) → IsEndFault read.lines read.groups fault → StopsBehind known texts (Fault fault)
      by_fault (Damaged number) why = record { lines = read.lines; left = left old; to = read_to; damage = inr (counted, why) }
      by_fault (Journal journal.Form) why = inl (subst (AreLines known) why counted)
      by_fault (Journal (journal.BadLine number)) why = absurd why
      by_fault (Journal (journal.TooLong number)) why = absurd why
      by_fault (Journal (journal.Refused number)) why = absurd why
      by_fault (Journal journal.Damaged) why = absurd why

    -- no more lines count, and all groups are whole
    pub reads_all : (form : JournalForm) → AreLines known read.lines
        → ((lines : List (List ℕ)) (groups : List (List (List ℕ))) → HasTaken old.groups lines groups → IsJournal form lines groups)
        → HasAll known texts (record { form = form; bytes = old.place.bytes; lines = old.place.lines })
    reads_all form counted whole = record {
      lines = read.lines;
      groups = read.groups;
      counted = counted;
      is = record { journal = whole read.lines read.groups read.stream; at = record { bytes = read.at.bytes; count = read.at.count; short = read.at.short } };
      told = whole_told old texts read none;
    }

  -- they have ended
  pub ended : (old new : TextLines R) (texts : List (List ℕ)) (read : HasRead remaining known old texts) → StandsForNothing (left old) → Keeps (left old) (left new) → new.groups ≡ old.groups
      → new.place ≡ old.place → new.group ≡ old.group → new.next ≡ old.next → (read : HasRead remaining known new texts) × AreLines known read.lines
  ended old new texts read none keeps stream_is place_is group_is next_is =
      let come : to_come new ≡ to_come old = ap (λ (w : WholeGroup). drop new.next (texts_of w)) group_is ∙ ap (λ n. drop n (texts_of old.group)) next_is in
      let first : new.group.first + new.next ≡ old.group.first + old.next = ap (λ (w : WholeGroup). w.first + new.next) group_is ∙ ap (λ n. old.group.first + n) next_is in
      let Entries : List (List ℕ) → ℕ → Type 0 = λ (w : List (List ℕ)) (n : ℕ). AreEntries read.lines texts w (numbers_from n (length w)) in (
        record {
          lines = read.lines;
          groups = read.groups;
          given = gives_kept known (left old) (left new) read.lines read.given keeps;
          stream = subst (λ w. HasTaken w read.lines read.groups) (sym stream_is) read.stream;
          at = subst (IsAt read.lines) (sym place_is) read.at;
          told = read.told ∙ ap (λ (w : List (List ℕ)). texts ++ w) (sym come);
          entries = subst (λ (w : List (List ℕ)). Entries w (new.group.first + new.next)) (sym come) (subst (λ n. Entries (to_come old) n) (sym first) read.entries);
        },
        gives_all known (left old) read.lines read.given none,
      )

-- a text that tells no request is why a journal isn't one
pub entry_stops : (known : Option (List ℕ)) (texts : List (List ℕ)) (history : List Request) (number : ℕ) (text : List ℕ) (fault : EntryFault) → AllZip Tells texts history → IsNext known texts number text
    → IsFaultOfLine text fault → IsJournalFault known (entry_error number fault)
entry_stops known texts history number line entry.BadLine told next why =
    record { lines = next.0; counted = next.1; before = texts; history = history; told = told; text = line; at = next.2; none = (next.3, why) }
entry_stops known texts history number line entry.NoLine told next why = absurd why
entry_stops known texts history number line entry.Memory told next why = tt

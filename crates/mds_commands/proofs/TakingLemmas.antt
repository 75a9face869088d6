-- What the lines that were taken come to.
use Rattle.std.proofs.Common.{◌≡◌, ◌∙◌, ℕ, suc, ◌+◌, ◌<◌, ◌≤◌, Vec, Global, get_or, take, drop, drop-cons, List, [], ◌∷◌, ◌++◌, length, inl, inr, All, Option, Some, None, refl, sym, ap, append_assoc, append-nil, length-append, subst, arith}
use Rattle.std.proofs.lemmas.List.{length-map, length-take-le, map-append, map_more, take_all, take-append-drop}
use Rattle.std.proofs.lemmas.List.Elements.{All-head, All-nil, All-push, All-tail, All-cons}
use Rattle.std.specs.List.{AllZip}
use Rattle.std.specs.Io.KnownBytes.{Keeps}
use Rattle.mds_table.specs.Tables.{Tables}
use Rattle.mds_table.specs.Json.{max_bytes}
use Rattle.mds_core.specs.declared.request.Request.{Request}
use Rattle.mds_entries.specs.Entry.{Tells}
use Rattle.mds_groups.specs.Form.{group_lines, header, lines_of, texts_in, IsEntry, IsJournal}
use Rattle.mds_groups.specs.Stream.{begun_of, texts_held, texts_of, EndsGroup, HasTaken, IsEndFault, IsLineFault, Refuses, Takes}
use Rattle.mds_groups.specs.declared.fault.GroupFault.{GroupFault}
use Rattle.mds_groups.specs.declared.fault.GroupFault.TheVariants.{Damaged, Journal}
use Rattle.mds_groups.specs.declared.form.JournalForm.{JournalForm}
use Rattle.mds_groups.specs.declared.form.JournalForm.TheVariants.{Plain, Checked}
use Rattle.mds_groups.specs.declared.stream.GroupError.{GroupError}
use Rattle.mds_groups.specs.declared.stream.GroupError.TheVariants as kind
use Rattle.mds_groups.specs.declared.stream.GroupStream.{GroupStream}
use Rattle.mds_groups.specs.declared.stream.WholeGroup.{WholeGroup}
use Rattle.mds_groups.proofs.JournalLemmas.{lines_more, texts_more}
use Rattle.mds_journal.specs.Lines.{HasNoFeed, open_lines, recovered_texts}
use Rattle.mds_journal.proofs.LineLemmas.{open_lines-append, recovered_end, recovered_lines}
use Rattle.mds_journal.specs.Stream.{HandsOut, IsStreamFault, StandsForNothing, lines_given, unread_of}
use Rattle.mds_journal.specs.declared.fault.JournalFault.TheVariants as fault
use Rattle.mds_journal.specs.declared.stream.StreamError.{StreamError}
use Rattle.mds_journal.specs.declared.stream.StreamError.TheVariants as stream
use Rattle.mds_commands.specs.declared.roster.Roster.{Roster}
use Rattle.mds_commands.specs.Roster.{Accepts, IsRosterOf}
use Rattle.mds_commands.specs.declared.vehicles.taking.TakeError.{TakeError}
use Rattle.mds_commands.specs.declared.vehicles.taking.TakeError.TheVariants.{Memory, Read, Fault}
use Rattle.mds_commands.specs.declared.vehicles.taking.Taking.{Taking}
use Rattle.mds_commands.specs.Taking.{AreTexts, Gives, HasFront, HasTakenAll, HasTakenOf, IsEntryFault, IsEntryOf, IsJournalFault, IsShort, IsTakenTo, StopsAmong, TakesTexts, group_error, stream_error}

-- ---- texts that are handed out

-- one more text
gives_more : (known middle left : Option (List ℕ)) (texts : List (List ℕ)) (text : List ℕ) → Gives known texts middle → HandsOut middle text left
    → Gives known (texts ++ text ∷ []) left
gives_more None middle left texts text given out = tt
gives_more (Some bytes) None left texts text given out = absurd given
gives_more (Some bytes) (Some some) None texts text given out = absurd out
gives_more (Some bytes) (Some some) (Some rest) texts text given out =
    let line : open_lines texts ++ some ≡ open_lines texts ++ 32 ∷ (text ++ 10 ∷ rest) = ap (λ (w : List ℕ). open_lines texts ++ w) out.0 in
    let back : 32 ∷ (text ++ 10 ∷ rest) ≡ open_lines (text ∷ []) ++ rest = ap (λ (w : List ℕ). 32 ∷ w) (sym (append_assoc text (10 ∷ []) rest)) in
    let all : open_lines texts ++ (open_lines (text ∷ []) ++ rest) ≡ open_lines (texts ++ text ∷ []) ++ rest =
    sym (append_assoc (open_lines texts) (open_lines (text ∷ [])) rest) ∙ ap (λ (w : List ℕ). w ++ rest) (sym (open_lines-append texts (text ∷ []))) in
    (given.0 ∙ line ∙ ap (λ (w : List ℕ). open_lines texts ++ w) back ∙ all, All-push HasNoFeed texts text given.1 out.1)

-- at the end they are all
gives_all : (known left : Option (List ℕ)) (texts : List (List ℕ)) → Gives known texts left → StandsForNothing left → AreTexts known texts
gives_all None left texts given none = tt
gives_all (Some bytes) None texts given none = absurd given
gives_all (Some bytes) (Some rest) texts given none = ap recovered_texts given.0 ∙ recovered_end texts rest given.1 none

-- the same bytes are left
gives_kept : (known middle left : Option (List ℕ)) (texts : List (List ℕ)) → Gives known texts middle → Keeps middle left → Gives known texts left
gives_kept None middle left texts given keeps = tt
gives_kept (Some bytes) None left texts given keeps = absurd given
gives_kept (Some bytes) (Some some) None texts given keeps = absurd keeps
gives_kept (Some bytes) (Some some) (Some rest) texts given keeps = (given.0 ∙ ap (λ (w : List ℕ). open_lines texts ++ w) (sym keeps), given.1)

-- no text was handed out yet
gives_none : (known left : Option (List ℕ)) → Keeps known left → Gives known [] left
gives_none None left keeps = tt
gives_none (Some bytes) None keeps = absurd keeps
gives_none (Some bytes) (Some rest) keeps = (sym keeps, All-nil HasNoFeed)

-- the first text of all
gives_first : (known middle left : Option (List ℕ)) (text : List ℕ) → Gives known [] middle → HandsOut middle text left → HandsOut known text left
gives_first None middle left text given out = tt
gives_first (Some bytes) None left text given out = absurd given
gives_first (Some bytes) (Some some) None text given out = absurd out
gives_first (Some bytes) (Some some) (Some rest) text given out = (given.0 ∙ out.0, out.1)

-- a front of them
gives_front : (known left : Option (List ℕ)) (texts front back : List (List ℕ)) → Gives known texts left → texts ≡ front ++ back → HasFront known front
gives_front None left texts front back given split = tt
gives_front (Some bytes) None texts front back given split = absurd given
gives_front (Some bytes) (Some rest) texts front back given split =
    (back ++ recovered_texts rest, ap recovered_texts given.0 ∙ recovered_lines texts rest given.1 ∙ ap (λ all. all ++ recovered_texts rest) split ∙ append_assoc front back (recovered_texts rest))

-- ---- lists

zip_append : (xs us : List (List ℕ)) (ys vs : List Request) → AllZip Tells xs ys → AllZip Tells us vs → AllZip Tells (xs ++ us) (ys ++ vs)
zip_append [] us [] vs first second = second
zip_append [] us (y ∷ ys) vs first second = absurd first
zip_append (x ∷ xs) us [] vs first second = absurd first
zip_append (x ∷ xs) us (y ∷ ys) vs first second = (first.0, zip_append xs us ys vs first.1 second)

all_behind : {X : Type 0} (P : X → Type 0) (xs ys : List X) → All P (xs ++ ys) → All P ys
all_behind P [] ys are = are
all_behind P (x ∷ xs) ys are = all_behind P xs ys (All-tail P x (xs ++ ys) are)

all_before : {X : Type 0} (P : X → Type 0) (xs ys : List X) → All P (xs ++ ys) → All P xs
all_before P [] ys are = All-nil P
all_before P (x ∷ xs) ys are = All-cons P x xs (All-head P x (xs ++ ys) are) (all_before P xs ys (All-tail P x (xs ++ ys) are))

-- the texts of vectors up to a place
pub held_more : (texts : List (Vec ℕ Global)) (at : ℕ) (text : Vec ℕ Global) → at < length texts → text ≡ get_or texts at text
    → texts_held (take (at + 1) texts) ≡ texts_held (take at texts) ++ text.items ∷ []
held_more texts at text within is =
    map_more (λ (one : Vec ℕ Global). one.items) texts at text within
    ∙ ap (λ (one : Vec ℕ Global). texts_held (take at texts) ++ one.items ∷ []) (sym is)

pub held_all : (texts : List (Vec ℕ Global)) (at : ℕ) → length texts ≤ at → texts_held (take at texts) ≡ texts_held texts
held_all texts at past = ap (λ (w : List (Vec ℕ Global)). texts_held w) (take_all at texts past)

pub held_front : (texts : List (Vec ℕ Global)) (at : ℕ) → at < length texts → length (texts_held (take at texts)) ≡ at
held_front texts at within =
    length-map (take at texts) (λ (one : Vec ℕ Global). one.items) ∙ length-take-le at texts (omega (arith, within))

-- those before one, it, and those behind it
pub held_around : (texts : List (Vec ℕ Global)) (at : ℕ) (text : Vec ℕ Global) → at < length texts → text ≡ get_or texts at text
    → texts_held texts ≡ texts_held (take at texts) ++ text.items ∷ texts_held (drop (suc at) texts)
held_around texts at text within is =
    let rest : drop at texts ≡ text ∷ drop (suc at) texts = drop-cons texts at text within ∙ ap (λ (one : Vec ℕ Global). one ∷ drop (suc at) texts) (sym is) in
    ap (λ (w : List (Vec ℕ Global)). texts_held w) (sym (take-append-drop at texts) ∙ ap (λ (w : List (Vec ℕ Global)). take at texts ++ w) rest)
    ∙ map-append (λ (one : Vec ℕ Global). one.items) (take at texts) (text ∷ drop (suc at) texts)

-- ---- texts that a roster takes

pub takes_none : (roster : Roster) → TakesTexts [] roster roster
takes_none roster tables history is = ([], tt, subst (λ w. IsRosterOf tables w roster) (sym (append-nil history)) is)

pub takes_more : (texts : List (List ℕ)) (old middle new : Roster) (text : List ℕ) (request : Request) → TakesTexts texts old middle → Tells text request
    → Accepts request middle new → TakesTexts (texts ++ text ∷ []) old new
takes_more texts old middle new text request taken tells accepts tables history is =
    let before = taken tables history is in
    let accepted = accepts tables (history ++ before.0) before.2 in (
      before.0 ++ request ∷ [],
      zip_append texts (text ∷ []) before.0 (request ∷ []) before.1 (tells, tt),
      subst (λ w. IsRosterOf tables w new) (append_assoc history before.0 (request ∷ [])) accepted.1,
    )

-- ---- lines that were taken

module _ {R : Type 0} (remaining : R → Option (List ℕ)) (tables : Tables) (known : Option (List ℕ)) where
  -- nothing yet
  pub begun : (taking : Taking R) → Keeps known (unread_of remaining taking.lines) → HasTaken taking.groups [] [] → lines_given taking.lines ≡ 0 → taking.count ≡ 0
      → IsRosterOf tables [] taking.roster → HasTakenOf remaining tables known taking
  begun taking keeps stream number count is = record {
    lines = [];
    groups = [];
    history = [];
    given = gives_none known (unread_of remaining taking.lines) keeps;
    short = All-nil IsShort;
    stream = stream;
    number = number;
    count = count;
    told = tt;
    roster_is = is;
  }

  -- no more lines count
  pub taken_all : (old new : Taking R) → HasTakenOf remaining tables known old → StandsForNothing (unread_of remaining old.lines)
      → Keeps (unread_of remaining old.lines) (unread_of remaining new.lines) → lines_given new.lines ≡ lines_given old.lines → new.groups ≡ old.groups → new.count ≡ old.count
      → new.roster ≡ old.roster → HasTakenAll remaining tables known new
  taken_all old new taken none keeps number groups count roster = record {
    taken = record {
      lines = taken.lines;
      groups = taken.groups;
      history = taken.history;
      given = gives_kept known (unread_of remaining old.lines) (unread_of remaining new.lines) taken.lines taken.given keeps;
      short = taken.short;
      stream = subst (λ (w : GroupStream). HasTaken w taken.lines taken.groups) (sym groups) taken.stream;
      number = number ∙ taken.number;
      count = count ∙ taken.count;
      told = taken.told;
      roster_is = subst (IsRosterOf tables taken.history) (sym roster) taken.roster_is;
    };
    counted = gives_all known (unread_of remaining old.lines) taken.lines taken.given none;
  }

  -- a line that ends no group
  pub taken_line : (old new : Taking R) (line : List ℕ) → HasTakenOf remaining tables known old → HandsOut (unread_of remaining old.lines) line (unread_of remaining new.lines)
      → IsShort line → lines_given new.lines ≡ lines_given old.lines + 1 → Takes old.groups new.groups (lines_given old.lines) line None → new.count ≡ old.count
      → new.roster ≡ old.roster → HasTakenOf remaining tables known new
  taken_line old new line taken out short number takes count roster =
      let behind = takes taken.lines taken.groups taken.stream taken.number in record {
        lines = taken.lines ++ line ∷ [];
        groups = taken.groups;
        history = taken.history;
        given = gives_more known (unread_of remaining old.lines) (unread_of remaining new.lines) taken.lines line taken.given out;
        short = All-push IsShort taken.lines line taken.short short;
        stream = subst (HasTaken new.groups (taken.lines ++ line ∷ [])) (append-nil taken.groups) behind.0;
        number = number ∙ ap (λ n. n + 1) taken.number ∙ sym (length-append taken.lines (line ∷ []));
        count = count ∙ taken.count;
        told = taken.told;
        roster_is = subst (IsRosterOf tables taken.history) (sym roster) taken.roster_is;
      }

  -- a line that ends a group, whose requests were taken
  pub taken_group : (old new : Taking R) (line : List ℕ) (group : WholeGroup) → HasTakenOf remaining tables known old
      → HandsOut (unread_of remaining old.lines) line (unread_of remaining new.lines) → IsShort line → lines_given new.lines ≡ lines_given old.lines + 1
      → Takes old.groups new.groups (lines_given old.lines) line (Some group) → new.count ≡ old.count + 1 → TakesTexts (texts_of group) old.roster new.roster
      → HasTakenOf remaining tables known new
  taken_group old new line group taken out short number takes count texts =
      let behind = takes taken.lines taken.groups taken.stream taken.number in
      let more = texts tables taken.history taken.roster_is in record {
        lines = taken.lines ++ line ∷ [];
        groups = taken.groups ++ texts_of group ∷ [];
        history = taken.history ++ more.0;
        given = gives_more known (unread_of remaining old.lines) (unread_of remaining new.lines) taken.lines line taken.given out;
        short = All-push IsShort taken.lines line taken.short short;
        stream = behind.0;
        number = number ∙ ap (λ n. n + 1) taken.number ∙ sym (length-append taken.lines (line ∷ []));
        count = count ∙ ap (λ n. n + 1) taken.count ∙ sym (length-append taken.groups (texts_of group ∷ []));
        told = subst (λ (w : List (List ℕ)). AllZip Tells w (taken.history ++ more.0)) (sym (texts_more taken.groups (texts_of group)))
            (zip_append (texts_in taken.groups) (texts_of group) taken.history more.0 taken.told more.1);
        roster_is = more.2;
      }

  -- ---- why lines aren't taken on

  -- what was taken is the front of a journal
  abbrev taken_to : (taking : Taking R) (taken : HasTakenOf remaining tables known taking) → IsTakenTo tables known taken.lines (unread_of remaining taking.lines) taken.history
  taken_to taking taken = record {
    groups = taken.groups;
    front = record { stage = taking.groups.stage; begun = begun_of taking.groups; split = taken.stream.split; may = taken.stream.may };
    given = taken.given;
    told = taken.told;
    lawful = taken.roster_is.lawful;
  }

  -- lines can't be read on
  pub stream_fault : (taking : Taking R) (error : StreamError) → HasTakenOf remaining tables known taking → IsStreamFault (lines_given taking.lines) max_bytes (unread_of remaining taking.lines) error
      → IsJournalFault tables known (stream_error error)
  stream_fault taking stream.Memory taken why = tt
  stream_fault taking stream.Read taken why = tt
  stream_fault taking (stream.TooLong line) taken why =
      (taken.lines, unread_of remaining taking.lines, taken.history, taken_to taking taken, why.0 ∙ taken.number, why.1)
  stream_fault taking stream.Full taken why = tt

  -- the next line goes on with no group
  pub group_fault : (taking : Taking R) (left : Option (List ℕ)) (line : List ℕ) (error : GroupError) → HasTakenOf remaining tables known taking
      → HandsOut (unread_of remaining taking.lines) line left → IsShort line → Refuses taking.groups (lines_given taking.lines) line error → IsJournalFault tables known (group_error error)
  group_fault taking left line error taken out short refuses = by_error error (refuses taken.lines taken.groups taken.stream taken.number) where
    by_error : (error : GroupError) → IsLineFault taken.lines taken.groups line error → IsJournalFault tables known (group_error error)
    by_error kind.Memory why = tt
    by_error (kind.Fault (Journal fault.Form)) why =
        let none = subst (λ (w : List (List ℕ)). Gives known w (unread_of remaining taking.lines)) why.0 taken.given in
        inr (line, left, gives_first known (unread_of remaining taking.lines) left line none out, short, why.1)
    by_error (kind.Fault (Journal (fault.BadLine number))) why = absurd why
    by_error (kind.Fault (Journal (fault.TooLong number))) why = absurd why
    by_error (kind.Fault (Journal (fault.Refused number))) why = absurd why
    by_error (kind.Fault (Journal fault.Damaged)) why = absurd why
    by_error (kind.Fault (Damaged number)) why = record {
      lines = taken.lines;
      left = unread_of remaining taking.lines;
      history = taken.history;
      to = taken_to taking taken;
      damage = inl (line, left, out, why);
    }

  -- no more lines count, and there is none, or a group isn't ended
  pub end_fault : (taking : Taking R) (found : GroupFault) → HasTakenAll remaining tables known taking
      → ((lines : List (List ℕ)) (groups : List (List (List ℕ))) → HasTaken taking.groups lines groups → lines_given taking.lines ≡ length lines → IsEndFault lines groups found)
      → IsJournalFault tables known (Fault found)
  end_fault taking found all ends = by_fault found (ends all.taken.lines all.taken.groups all.taken.stream all.taken.number) where
    by_fault : (found : GroupFault) → IsEndFault all.taken.lines all.taken.groups found → IsJournalFault tables known (Fault found)
    by_fault (Journal fault.Form) why = inl (subst (AreTexts known) why all.counted)
    by_fault (Journal (fault.BadLine number)) why = absurd why
    by_fault (Journal (fault.TooLong number)) why = absurd why
    by_fault (Journal (fault.Refused number)) why = absurd why
    by_fault (Journal fault.Damaged) why = absurd why
    by_fault (Damaged number) why = record {
      lines = all.taken.lines;
      left = unread_of remaining taking.lines;
      history = all.taken.history;
      to = taken_to taking all.taken;
      damage = inr (all.counted, why);
    }

  -- ---- why the requests of a group aren't taken

  -- where the texts of a group stand among the lines
  group_split : (form : JournalForm) (lines : List (List ℕ)) (groups : List (List (List ℕ))) (texts front : List (List ℕ)) (text : List ℕ) (back : List (List ℕ))
      → IsJournal form lines (groups ++ texts ∷ []) → texts ≡ front ++ text ∷ back
      → (more : List (List ℕ)) × (lines ≡ (header form ++ lines_of form groups) ++ ((front ++ text ∷ back) ++ more))
  group_split form lines groups texts front text back journal split = by_form form journal where
    whole : (form : JournalForm) → IsJournal form lines (groups ++ texts ∷ []) → lines ≡ (header form ++ lines_of form groups) ++ group_lines form (front ++ text ∷ back)
    whole form journal =
        journal.lines_are ∙ ap (λ (w : List (List ℕ)). header form ++ w) (lines_more form groups texts)
        ∙ sym (append_assoc (header form) (lines_of form groups) (group_lines form texts))
        ∙ ap (λ (w : List (List ℕ)). (header form ++ lines_of form groups) ++ group_lines form w) split

    by_form : (form : JournalForm) → IsJournal form lines (groups ++ texts ∷ []) → (more : List (List ℕ)) × (lines ≡ (header form ++ lines_of form groups) ++ ((front ++ text ∷ back) ++ more))
    by_form Plain journal =
        ([], whole Plain journal ∙ ap (λ (w : List (List ℕ)). (header Plain ++ lines_of Plain groups) ++ w) (sym (append-nil (front ++ text ∷ back))))
    by_form Checked journal = (_, whole Checked journal)

  regroup : (before front : List (List ℕ)) (text : List ℕ) (back more : List (List ℕ))
      → before ++ ((front ++ text ∷ back) ++ more) ≡ ((before ++ front) ++ text ∷ []) ++ (back ++ more)
  regroup before front text back more =
      ap (λ (w : List (List ℕ)). before ++ w) (append_assoc front (text ∷ back) more)
      ∙ sym (append_assoc before front (text ∷ (back ++ more)))
      ∙ sym (append_assoc (before ++ front) (text ∷ []) (back ++ more))

  module _ (old : Taking R) (left : Option (List ℕ)) (line : List ℕ) (group : WholeGroup) (error : TakeError) (taken : HasTakenOf remaining tables known old)
      (out : HandsOut (unread_of remaining old.lines) line left) (short : IsShort line) (ends : EndsGroup (taken.lines ++ line ∷ []) taken.groups group)
      (stops : StopsAmong group.first (texts_of group) old.roster error) where
    abbrev before : List (List ℕ)
    before = header ends.form ++ lines_of ends.form taken.groups

    more : (requests : List Request) × AllZip Tells stops.front requests × IsRosterOf tables (taken.history ++ requests) stops.middle
    more = stops.taken tables taken.history taken.roster_is

    place : (behind : List (List ℕ)) × (taken.lines ++ line ∷ [] ≡ before ++ ((stops.front ++ stops.text ∷ stops.back) ++ behind))
    place = group_split ends.form (taken.lines ++ line ∷ []) taken.groups (texts_of group) stops.front stops.text stops.back ends.journal stops.split

    -- the text at which it stops
    entry : (number : ℕ) → number ≡ group.first + length stops.front → IsEntryOf tables known number (taken.history ++ more.0) stops.text
    entry number is = record {
      form = ends.form;
      before = before;
      groups = taken.groups;
      journal = record { lines_are = refl; texts_are = all_before (All (IsEntry ends.form)) taken.groups (texts_of group ∷ []) ends.journal.texts_are };
      front = stops.front;
      counted = gives_front known left (taken.lines ++ line ∷ []) ((before ++ stops.front) ++ stops.text ∷ []) (stops.back ++ place.0)
          (gives_more known (unread_of remaining old.lines) left taken.lines line taken.given out)
          (place.1 ∙ regroup before stops.front stops.text stops.back place.0);
      place = is ∙ ap (λ n. n + length stops.front) ends.first;
      told = zip_append (texts_in taken.groups) stops.front taken.history more.0 taken.told more.1;
      lawful = more.2.lawful;
    }

    entry_short : IsShort stops.text
    entry_short =
        let all = subst (All IsShort) (place.1 ∙ ap (λ (w : List (List ℕ)). before ++ w) (append_assoc stops.front (stops.text ∷ stops.back) place.0)) (All-push IsShort taken.lines line taken.short short) in
        All-head IsShort stops.text (stops.back ++ place.0) (all_behind IsShort stops.front (stops.text ∷ (stops.back ++ place.0)) (all_behind IsShort before (stops.front ++ stops.text ∷ (stops.back ++ place.0)) all))

    pub entry_fault : IsJournalFault tables known error
    entry_fault = by_error error stops.fault where
      by_error : (error : TakeError) → IsEntryFault (group.first + length stops.front) stops.text stops.middle error → IsJournalFault tables known error
      by_error Memory why = tt
      by_error Read why = absurd why
      by_error (Fault (Damaged number)) why = absurd why
      by_error (Fault (Journal fault.Form)) why = absurd why
      by_error (Fault (Journal (fault.TooLong number))) why = absurd why
      by_error (Fault (Journal fault.Damaged)) why = absurd why
      by_error (Fault (Journal (fault.BadLine number))) why = (taken.history ++ more.0, stops.text, entry number why.0, (entry_short, why.1))
      by_error (Fault (Journal (fault.Refused number))) why =
          let refused = why.1 in
          (taken.history ++ more.0, stops.text, entry number why.0, (refused.0, refused.1, refused.2 tables (taken.history ++ more.0) more.2))

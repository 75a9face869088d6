-- What stands behind the lines of a journal.
use Rattle.std.proofs.Common.{◌==◌, true}
use Rattle.std.proofs.lemmas.Bool.{ne_eqb, true≢false}
use Rattle.std.proofs.Common.{◌≡◌, ◌≢◌, inl, inr, ℕ, ◌+◌, ◌<◌, ◌≤◌, List, [], ◌∷◌, ◌++◌, length, take, drop, All, refl, sym, ap, ◌∙◌, subst, arith, append_assoc}
use Rattle.std.proofs.lemmas.List.{length-append, length-drop}
use Rattle.std.proofs.lemmas.List.Elements.{All-head, All-nil, All-push, All-tail}
use Rattle.mds_journal.specs.Lines.{open_lines, recovered_texts}
use Rattle.std.proofs.lemmas.List.{take-append-drop, length-take-le}
use Rattle.mds_journal.specs.Opening.{AreLines}
use Rattle.mds_journal.specs.Journal.{HasShortEnd}
use Rattle.mds_journal.specs.declared.group.TheConstants.{MAX_GROUP_BYTES}
use Rattle.mds_journal.proofs.LineLemmas.{open_lines-append, parts, recovered_is, recovered_line, recovered_shut, recovered_torn}
use Rattle.mds_check.specs.Crc.{crc32}
use Rattle.mds_check.specs.Form.{IsText}
use Rattle.mds_check.proofs.FormLemmas.{check_text-length}
use Rattle.mds_groups.specs.Form.{check_of, group_lines}
use Rattle.mds_groups.specs.declared.form.JournalForm.TheVariants.{Checked}
use Rattle.std.proofs.Common.{Some, ◌-◌, zero, suc, slice_index, Result, Ok, Err, IfOk, IfErr}
use Rattle.std.specs.List.{AllZip}
use Rattle.mds_table.specs.Tables.{Tables}
use Rattle.mds_core.specs.declared.request.Request.{Request}
use Rattle.mds_journal.specs.Device.{Untouched}
use Rattle.mds_groups.specs.Laws.{TellsTexts}
use Rattle.mds_groups.specs.declared.form.JournalForm.{JournalForm}
use Rattle.mds_follow.specs.declared.end.JournalEnd.{JournalEnd}
use Rattle.mds_entries.specs.Entry.{Tells}
use Rattle.mds_entries.specs.declared.entry.EntryFault.TheVariants.{BadLine, NoLine}
use Rattle.mds_follow.specs.Pieces.{AreRead, IsTextFault}
use Rattle.mds_follow.proofs.Disks.{entries_tell_one}
use Rattle.mds_journal.specs.Lines.{lines_behind}
use Rattle.mds_groups.specs.Behind.{BeginWithGroup, CountedOnce, IsUnopened}
use Rattle.mds_groups.proofs.BehindLemmas.{no_check, one_group}
use Rattle.mds_follow.specs.End.{end_of, IsRoom, IsWithoutRoom, HasRefused, IsAllOf, IsEnd, IsFoundIn, IsGroupIn, IsRefusedEnd}

-- the lines of some bytes have no more bytes than these
recovered_few : (bytes : List ℕ) → length (open_lines (recovered_texts bytes)) ≤ length bytes
recovered_few bytes =
    let p = parts bytes in
    omega (arith, ap length p.split, length-append (open_lines (recovered_texts bytes)) p.end)

-- a line more has its gate, its text and its line feed
pub line_bytes : (front : List (List ℕ)) (text : List ℕ) (rest : List (List ℕ))
    → length (open_lines (front ++ text ∷ rest)) ≡ length (open_lines front) + length text + 2 + length (open_lines rest)
line_bytes front text rest =
    omega (arith, ap length (open_lines-append front (text ∷ rest)), length-append (open_lines front) (open_lines (text ∷ rest)), length-append text (10 ∷ open_lines rest))

pub behind_few : (bytes : List ℕ) → length (open_lines (lines_behind bytes)) ≤ length bytes
behind_few [] = omega arith
behind_few (gate ∷ bytes) = recovered_few (32 ∷ bytes)

-- where a text tells none, they tell no list of requests
told_front : (front rest : List (List ℕ)) (text : List ℕ) (told : List Request) → AllZip Tells (front ++ text ∷ rest) told → (request : Request) × Tells text request
told_front [] rest text [] tells = absurd tells
told_front [] rest text (request ∷ told) tells = (request, tells.0)
told_front (first ∷ front) rest text [] tells = absurd tells
told_front (first ∷ front) rest text (request ∷ told) tells = told_front front rest text told tells.1

none_of : (texts front rest : List (List ℕ)) → texts ≡ front ++ rest → IsTextFault rest BadLine → (told : List Request) → AllZip Tells texts told → ⊥
none_of texts front [] split why told tells = why
none_of texts front (text ∷ rest) split why told tells =
    let one = told_front front rest text told (subst (λ (w : List (List ℕ)). AllZip Tells w told) split tells) in
    why one.0 one.1

pub tells_none : (texts : List (List ℕ)) (requests : List Request) → AreRead texts requests (Err BadLine) → (told : List Request) → AllZip Tells texts told → ⊥
tells_none texts requests read told tells = none_of texts read.0 read.1 read.2 read.4 told tells

no_line_of : (rest : List (List ℕ)) → IsTextFault rest NoLine → ⊥
no_line_of [] why = why
no_line_of (text ∷ rest) why = why

pub no_line : (texts : List (List ℕ)) (requests : List Request) → AreRead texts requests (Err NoLine) → ⊥
no_line texts requests read = no_line_of read.1 read.4

-- what is found behind a gate, by its lines
module _ (bytes : List ℕ) (lines : List (List ℕ)) (are : lines ≡ lines_behind bytes) where
  here : (texts more : List (List ℕ)) → BeginWithGroup (lines_behind bytes) texts more → BeginWithGroup lines texts more
  here texts more group = subst (λ (w : List (List ℕ)). BeginWithGroup w texts more) (sym are) group

  there : (texts more : List (List ℕ)) → BeginWithGroup lines texts more → BeginWithGroup (lines_behind bytes) texts more
  there texts more group = subst (λ (w : List (List ℕ)). BeginWithGroup w texts more) are group

  -- no group
  pub none_found : ((texts more : List (List ℕ)) → BeginWithGroup lines texts more → ⊥) → (CountedOnce Checked bytes → ⊥) × IsAllOf Checked bytes []
  none_found none = (
    λ counted. let at = counted.1 in none at.0 at.1 (here at.0 at.1 at.2),
    λ texts told unopened tells. absurd (none texts [] (here texts [] unopened.1)),
  )

  -- one, and these lines behind it
  module _ (texts more : List (List ℕ)) (group : BeginWithGroup lines texts more) where
    pub counted_once : more ≢ [] → CountedOnce Checked bytes
    counted_once some = (refl, (texts, more, there texts more group, some))

    pub not_counted : more ≡ [] → CountedOnce Checked bytes → ⊥
    not_counted none counted =
        let at = counted.1 in
        at.3 ((one_group lines at.0 at.1 texts more (here at.0 at.1 at.2) group).1 ∙ none)

    pub unopened : more ≡ [] → IsUnopened Checked bytes texts
    unopened none = (refl, subst (λ (w : List (List ℕ)). BeginWithGroup (lines_behind bytes) texts w) none (there texts more group))

    same_texts : (others : List (List ℕ)) → IsUnopened Checked bytes others → others ≡ texts
    same_texts others is = (one_group lines others [] texts more (here others [] is.1) group).0

    -- whose texts tell no requests
    pub tells_nothing : ((told : List Request) → AllZip Tells texts told → ⊥) → IsAllOf Checked bytes []
    tells_nothing none others told is tells = absurd (none told (subst (λ (w : List (List ℕ)). AllZip Tells w told) (same_texts others is) tells))

    -- or these
    pub tells_these : (requests : List Request) → AllZip Tells texts requests → IsAllOf Checked bytes requests
    tells_these requests these others told is tells =
        entries_tell_one texts requests told these (subst (λ (w : List (List ℕ)). AllZip Tells w told) (same_texts others is) tells)

-- behind all lines that were read stands the end
pub end_is : (file : List ℕ) (at : ℕ) → AreLines (take at file) → at ≤ length file → recovered_texts (drop at file) ≡ [] → drop at file ≡ end_of file
end_is file at lines within none =
    let texts = lines.texts in
    let split : file ≡ open_lines texts ++ drop at file = sym (take-append-drop at file) ∙ ap (λ (w : List ℕ). w ++ drop at file) lines.split in
    let told : recovered_texts file ≡ texts = recovered_is file (drop at file) texts lines.none split none in
    let long : length (open_lines (recovered_texts file)) ≡ at =
    ap (λ (w : List (List ℕ)). length (open_lines w)) told ∙ ap length (sym lines.split) ∙ length-take-le at file within in
    ap (λ (n : ℕ). drop n file) (sym long)

-- more stands there than a crash leaves
pub not_short : (file : List ℕ) → MAX_GROUP_BYTES < length (end_of file) → HasShortEnd file → ⊥
not_short file many short = absurd (omega (arith, many, short, length-drop (length (open_lines (recovered_texts file))) file))

-- ---- room

abbrev IsFeed : ℕ → Type 0
IsFeed byte = byte ≡ 10

pub feeds_of : (end : ℕ) (bytes : List ℕ) → end ≤ 1 → All (λ (byte : ℕ). byte ≡ 10) (drop end bytes) → All (λ (byte : ℕ). byte ≡ 10) (drop 1 bytes)
feeds_of zero [] few all = all
feeds_of zero (byte ∷ bytes) few all = All-tail IsFeed byte bytes all
feeds_of (suc zero) bytes few all = all
feeds_of (suc (suc end)) bytes few all = absurd (omega (arith, few))

-- a byte that is no line feed, behind the gate
pub not_room : (end : ℕ) (bytes : List ℕ) → 1 < end → end ≤ length bytes → (slice_index bytes (end - 1) ≡ 10 → ⊥) → IsRoom bytes → ⊥
not_room zero bytes some within differs room = absurd (omega (arith, some))
not_room (suc zero) bytes some within differs room = absurd (omega (arith, some))
not_room (suc (suc end)) [] some within differs room = absurd (omega (arith, within))
not_room (suc (suc end)) (byte ∷ bytes) some within differs room =
    let e : suc (suc end) - 1 ≡ suc end = omega arith in
    differs (ap (slice_index (byte ∷ bytes)) e ∙ room.0 end 0 (omega (arith, within)))

feeds_nothing : (rest : List ℕ) → All (λ (byte : ℕ). byte ≡ 10) rest → recovered_texts rest ≡ []
feeds_nothing [] all = refl
feeds_nothing (byte ∷ rest) all =
    recovered_shut byte rest (λ is. absurd (omega (arith, is, All-head IsFeed byte rest all)))

empty_text : (rest : List ℕ) → All (λ (byte : ℕ). byte ≡ 10) rest → All IsText (recovered_texts (32 ∷ rest))
empty_text [] all = subst (λ (w : List (List ℕ)). All IsText w) (sym (recovered_torn [] (All-nil (λ (byte : ℕ). byte ≢ 10)))) (All-nil IsText)
empty_text (byte ∷ rest) all =
    let feed : byte ≡ 10 = All-head IsFeed byte rest all in
    let lines : recovered_texts (32 ∷ (byte ∷ rest)) ≡ [] ∷ [] =
    ap (λ (w : ℕ). recovered_texts (32 ∷ (w ∷ rest))) feed ∙ recovered_line [] rest (All-nil (λ (byte : ℕ). byte ≢ 10)) ∙ ap (λ (w : List (List ℕ)). [] ∷ w) (feeds_nothing rest (All-tail IsFeed byte rest all)) in
    subst (λ (w : List (List ℕ)). All IsText w) (sym lines) (All-push IsText [] [] (All-nil IsText) (λ long. absurd (omega (arith, long))))

behind_room : (bytes : List ℕ) → IsRoom bytes → All IsText (lines_behind bytes)
behind_room [] room = All-nil IsText
behind_room (gate ∷ bytes) room = empty_text bytes room.0

-- behind a gate with room stands no group
pub room_has_none : (bytes : List ℕ) → IsRoom bytes → (CountedOnce Checked bytes → ⊥) × IsAllOf Checked bytes []
room_has_none bytes room = none_found bytes (lines_behind bytes) refl (no_check (lines_behind bytes) (behind_room bytes room))

-- where nothing is left without room, it was room
pub was_room : (bytes cut : List ℕ) → IsWithoutRoom bytes cut → cut ≡ [] → IsRoom bytes
was_room bytes cut (inl room) none = room.0
was_room bytes cut (inr more) none = absurd (more.1.3 none)

-- what holds of one answer
pub if_ok : {X Y : Type 0} (result : Result X Y) (P Q : X → Type 0) → ((x : X) → P x → Q x) → IfOk result P → IfOk result Q
if_ok (Ok x) P Q more is = more x is
if_ok (Err y) P Q more is = tt

pub if_err : {X Y : Type 0} (result : Result X Y) (P Q : Y → Type 0) → ((y : Y) → P y → Q y) → IfErr result P → IfErr result Q
if_err (Ok x) P Q more is = tt
if_err (Err y) P Q more is = more y is

-- what was found in a checked journal
pub found_end : (form : JournalForm) (bytes : List ℕ) (end : JournalEnd) → form ≡ Checked → end.bytes.items ≡ bytes → IsFoundIn bytes (Some (end.requests, end.place)) → IsEnd form bytes end
found_end form bytes end is same found =
    let one = found.1 in
    subst (λ (w : JournalForm). IsEnd w bytes end) (sym is)
    (record {
      bytes_are = same;
      whole = found.0;
      group = inr one;
      all = tells_these bytes (lines_behind bytes) refl one.0 [] one.1.1 end.requests.items one.2;
    })

-- the tables refuse the group that was found
pub refused_is : (tables : Tables) (file : List ℕ) (texts : List (List ℕ)) (told requests : List Request) (form : JournalForm) (place : ℕ) → TellsTexts form (recovered_texts file) texts
    → IsGroupIn form (end_of file) requests place → HasRefused tables told requests → IsRefusedEnd tables file texts told
refused_is tables file texts told requests form place tells (inl none) refused =
    absurd (omega (arith, ap length none.0, ap length refused.split, length-append refused.before (refused.request ∷ refused.rest)))
refused_is tables file texts told requests form place tells (inr group) refused =
    record { form = form; tells = tells; group = group.0; requests = requests; unopened = group.1; told_by = group.2; refused = refused }

-- a device that was read twice was read
pub both_untouched : {D : Type 0} (seen : D → List ℕ) (may_leave : D → List ℕ → Type 0) (moment : D → ℕ) (left_since : D → ℕ → List ℕ → Type 0) (old mid new : D)
    → Untouched seen may_leave moment left_since old mid → Untouched seen may_leave moment left_since mid new → Untouched seen may_leave moment left_since old new
both_untouched seen may_leave moment left_since old mid new one two = record {
  file = two.file ∙ one.file;
  outcomes = λ c left. one.outcomes c (two.outcomes c left);
  time = two.time ∙ one.time;
  past = λ t c left. one.past t c (two.past t c left);
}

pub nothing_left : (bytes : List ℕ) → true ≡ (length bytes == 0) → bytes ≡ []
nothing_left [] is = refl
nothing_left (byte ∷ bytes) is = absurd (true≢false (is ∙ ne_eqb (length (byte ∷ bytes)) 0 (λ none. absurd (omega (arith, none)))))

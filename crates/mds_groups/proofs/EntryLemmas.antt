-- Where the texts of groups stand among the lines of a journal, and what a stream has of them.
use Rattle.std.proofs.Common.{◌≡◌, inl, inr, ℕ, zero, suc, ◌+◌, ◌≤◌, List, [], ◌∷◌, ◌++◌, length, Some, slice_get, All, refl, sym, ap, ◌∙◌, subst, arith, append_assoc, length-append}
use Rattle.std.proofs.lemmas.List.{append-nil, length-map}
use Rattle.std.proofs.lemmas.List.Elements.{All-nil, All-cons, All-head, All-tail}
use Rattle.mds_check.specs.Form.{laid_out}
use Rattle.mds_groups.specs.Form.{check_of, first_line, group_lines, header, lines_of, texts_in, IsEntry, IsJournal}
use Rattle.mds_groups.specs.Entries.{numbers_from, AreEntries, IsEntryAt}
use Rattle.mds_groups.specs.Stream.{begun_of, lines_before, texts_of, EndsGroup, HasTaken, IsFront, IsLineFault, MayHave}
use Rattle.mds_groups.specs.declared.fault.GroupFault.TheVariants.{Damaged}
use Rattle.mds_groups.specs.declared.form.JournalForm.{JournalForm}
use Rattle.mds_groups.specs.declared.form.JournalForm.TheVariants.{Plain, Checked}
use Rattle.mds_groups.specs.declared.stream.GroupError.TheVariants.{Fault}
use Rattle.mds_groups.specs.declared.stream.GroupStream.{GroupStream}
use Rattle.mds_groups.specs.declared.stream.Stage.{Stage}
use Rattle.mds_groups.specs.declared.stream.Stage.TheVariants.{First, FormCheck, Groups}
use Rattle.mds_groups.specs.declared.stream.WholeGroup.{WholeGroup}
use Rattle.mds_groups.proofs.JournalLemmas.{lines_more}

-- ---- numbers, one behind the other

pub numbers_more : (first count : ℕ) → numbers_from first (suc count) ≡ numbers_from first count ++ (first + count) ∷ []
numbers_more first zero = let same : first ≡ first + 0 = omega arith in ap (λ (w : ℕ). w ∷ []) same
numbers_more first (suc count) =
    let same : first + 1 + count ≡ first + suc count = omega arith in
    ap (λ (w : List ℕ). first ∷ w) (numbers_more (first + 1) count) ∙ ap (λ (w : ℕ). first ∷ (numbers_from (first + 1) count ++ w ∷ [])) same

pub numbers_count : (first count : ℕ) → length (numbers_from first count) ≡ count
numbers_count first zero = refl
numbers_count first (suc count) = omega (arith, numbers_count (first + 1) count)

-- ---- texts that stand behind others

-- the first of them
pub entries_front : (lines before front rest : List (List ℕ)) (numbers : List ℕ) → AreEntries lines before (front ++ rest) numbers → AreEntries lines before front numbers
entries_front lines before [] rest numbers are = tt
entries_front lines before (text ∷ front) rest [] are = absurd are
entries_front lines before (text ∷ front) rest (number ∷ numbers) are = (are.0, entries_front lines (before ++ text ∷ []) front rest numbers are.1)

-- one of them
pub entry_of : (lines before front : List (List ℕ)) (text : List ℕ) (back : List (List ℕ)) (numbers : List ℕ) → AreEntries lines before (front ++ text ∷ back) numbers
    → (number : ℕ) × (slice_get numbers (length front) ≡ Some number) × IsEntryAt lines (before ++ front) number text
entry_of lines before [] text back [] are = absurd are
entry_of lines before [] text back (number ∷ numbers) are = (number, refl, subst (λ (w : List (List ℕ)). IsEntryAt lines w number text) (sym (append-nil before)) are.0)
entry_of lines before (one ∷ front) text back [] are = absurd are
entry_of lines before (one ∷ front) text back (number ∷ numbers) are =
    let later = entry_of lines (before ++ one ∷ []) front text back numbers are.1 in
    (later.0, later.1, subst (λ (w : List (List ℕ)). IsEntryAt lines w later.0 text) (append_assoc before (one ∷ []) front) later.2)

-- and others behind them
pub entries_both : (lines before texts more : List (List ℕ)) (numbers others : List ℕ) → length numbers ≡ length texts → AreEntries lines before texts numbers
    → AreEntries lines (before ++ texts) more others → AreEntries lines before (texts ++ more) (numbers ++ others)
entries_both lines before [] more [] others size are behind = subst (λ (w : List (List ℕ)). AreEntries lines w more others) (append-nil before) behind
entries_both lines before [] more (number ∷ numbers) others size are behind = absurd (omega (arith, size))
entries_both lines before (text ∷ texts) more [] others size are behind = absurd are
entries_both lines before (text ∷ texts) more (number ∷ numbers) others size are behind = (
  are.0,
  entries_both lines (before ++ text ∷ []) texts more numbers others (omega (arith, size)) are.1
      (subst (λ (w : List (List ℕ)). AreEntries lines w more others) (sym (append_assoc before (text ∷ []) texts)) behind),
)

-- they stand among more lines, too
entry_longer : (lines more before : List (List ℕ)) (number : ℕ) (text : List ℕ) → IsEntryAt lines before number text → IsEntryAt (lines ++ more) before number text
entry_longer lines more before number text at = record {
  form = at.form;
  whole = at.whole;
  groups = at.groups;
  journal = at.journal;
  front = at.front;
  back = at.back;
  rest = at.rest ++ more;
  split = ap (λ (w : List (List ℕ)). w ++ more) at.split ∙ append_assoc (at.whole ++ group_lines at.form (at.front ++ text ∷ at.back)) at.rest more;
  entries = at.entries;
  texts = at.texts;
  place = at.place;
}

pub entries_longer : (lines more before texts : List (List ℕ)) (numbers : List ℕ) → AreEntries lines before texts numbers → AreEntries (lines ++ more) before texts numbers
entries_longer lines more before [] numbers are = tt
entries_longer lines more before (text ∷ texts) [] are = absurd are
entries_longer lines more before (text ∷ texts) (number ∷ numbers) are =
    (entry_longer lines more before number text are.0, entries_longer lines more (before ++ text ∷ []) texts numbers are.1)

-- ---- the texts of a group

module _ (form : JournalForm) (lines whole : List (List ℕ)) (groups : List (List (List ℕ))) (rest : List (List ℕ)) (journal : IsJournal form whole groups) where
  texts_stand : (front texts : List (List ℕ)) (number : ℕ) → lines ≡ (whole ++ group_lines form (front ++ texts)) ++ rest → All (IsEntry form) (front ++ texts)
      → number ≡ length whole + length front → AreEntries lines (texts_in groups ++ front) texts (numbers_from number (length texts))
  texts_stand front [] number split are place = tt
  texts_stand front (text ∷ texts) number split are place =
      let same : front ++ text ∷ texts ≡ (front ++ text ∷ []) ++ texts = sym (append_assoc front (text ∷ []) texts) in
      let later = texts_stand (front ++ text ∷ []) texts (number + 1) (subst (λ (w : List (List ℕ)). lines ≡ (whole ++ group_lines form w) ++ rest) same split)
      (subst (All (IsEntry form)) same are) (omega (arith, place, length-append front (text ∷ []))) in (
        record {
          form = form;
          whole = whole;
          groups = groups;
          journal = journal;
          front = front;
          back = texts;
          rest = rest;
          split = split;
          entries = are;
          texts = refl;
          place = place;
        },
        subst (λ (w : List (List ℕ)). AreEntries lines w texts (numbers_from (number + 1) (length texts))) (sym (append_assoc (texts_in groups) front (text ∷ []))) later,
      )

all_before : {X : Type 0} (P : X → Type 0) (xs ys : List X) → All P (xs ++ ys) → All P xs
all_before P [] ys are = All-nil P
all_before P (x ∷ xs) ys are = All-cons P x xs (All-head P x (xs ++ ys) are) (all_before P xs ys (All-tail P x (xs ++ ys) are))

all_behind : {X : Type 0} (P : X → Type 0) (xs ys : List X) → All P (xs ++ ys) → All P ys
all_behind P [] ys are = are
all_behind P (x ∷ xs) ys are = all_behind P xs ys (All-tail P x (xs ++ ys) are)

-- those of a group that ends with the last of these lines
pub group_stands : (lines : List (List ℕ)) (groups : List (List (List ℕ))) (group : WholeGroup) → EndsGroup lines groups group
    → AreEntries lines (texts_in groups) (texts_of group) (numbers_from group.first (length group.texts.items))
group_stands lines groups group ends =
    let form = ends.form in
    let texts = texts_of group in
    let whole : List (List ℕ) = header form ++ lines_of form groups in
    let Each : List (List ℕ) → Type 0 = All (IsEntry form) in
    let before = all_before Each groups (texts ∷ []) ends.journal.texts_are in
    let last : Each texts = All-head Each texts [] (all_behind Each groups (texts ∷ []) ends.journal.texts_are) in
    let split : lines ≡ (whole ++ group_lines form texts) ++ [] =
    ends.journal.lines_are ∙ ap (λ (w : List (List ℕ)). header form ++ w) (lines_more form groups texts)
    ∙ sym (append_assoc (header form) (lines_of form groups) (group_lines form texts)) ∙ sym (append-nil (whole ++ group_lines form texts)) in
    let size : length texts ≡ length group.texts.items = length-map group.texts.items (λ text. text.items) in
    let place : group.first ≡ length whole + 0 = omega (arith, ends.first) in
    let stand = texts_stand form lines whole groups [] (record { lines_are = refl; texts_are = before }) [] texts group.first split last place in
    subst (λ (w : ℕ). AreEntries lines (texts_in groups) texts (numbers_from group.first w)) size
    (subst (λ (w : List (List ℕ)). AreEntries lines w texts (numbers_from group.first (length texts))) (append-nil (texts_in groups)) stand)

-- ---- what a stream has

-- what was taken is the front of a journal
pub front_of : (stream : GroupStream) (lines : List (List ℕ)) (groups : List (List (List ℕ))) → HasTaken stream lines groups → IsFront lines groups
front_of stream lines groups taken = record { stage = stream.stage; begun = begun_of stream; split = taken.split; may = taken.may }

few_in : (form : JournalForm) (groups : List (List (List ℕ))) → length (texts_in groups) ≤ length (lines_of form groups)
few_in Plain groups = omega arith
few_in Checked [] = omega arith
few_in Checked (group ∷ groups) =
    omega (arith, few_in Checked groups, length-append group (texts_in groups), length-append group (check_of group ∷ laid_out groups))

few_before : (stage : Stage) (groups : List (List (List ℕ))) (begun : List (List ℕ)) → MayHave stage groups begun → length (texts_in groups) ≤ length (lines_before stage groups ++ begun)
few_before First groups begun may = omega (arith, ap (λ (w : List (List (List ℕ))). length (texts_in w)) may.0)
few_before FormCheck groups begun may = omega (arith, ap (λ (w : List (List (List ℕ))). length (texts_in w)) may.0)
few_before (Groups form) groups begun may =
    omega (arith, few_in form groups, length-append (header form) (lines_of form groups), length-append (header form ++ lines_of form groups) begun)

-- there are no more texts than lines
pub few_texts : (stream : GroupStream) (lines : List (List ℕ)) (groups : List (List (List ℕ))) → HasTaken stream lines groups → length (texts_in groups) ≤ length lines
few_texts stream lines groups taken =
    omega (arith, few_before stream.stage groups (begun_of stream) taken.may, ap (λ (w : List (List ℕ)). length w) taken.split)

none_of : (texts more : List (List ℕ)) → [] ≡ texts ++ more → texts ≡ []
none_of [] more is = refl
none_of (text ∷ texts) more is = absurd (cc is)

first_of : (stage : Stage) (line : List ℕ) (groups : List (List (List ℕ))) (begun : List (List ℕ)) → line ∷ [] ≡ lines_before stage groups ++ begun → MayHave stage groups begun
    → (form : JournalForm) × (line ≡ first_line form) × (texts_in groups ≡ [])
first_of First line groups begun split may = absurd (cc (split, may.1))
first_of FormCheck line groups begun split may = (Checked, cc split, ap texts_in may.0)
first_of (Groups Plain) line groups begun split may = (Plain, cc split, none_of (texts_in groups) begun (cc split))
first_of (Groups Checked) line groups begun split may = absurd (cc split)

-- a line that was taken first names a form, and tells nothing
pub first_names : (stream : GroupStream) (line : List ℕ) (groups : List (List (List ℕ))) → HasTaken stream (line ∷ []) groups
    → (form : JournalForm) × (line ≡ first_line form) × (texts_in groups ≡ [])
first_names stream line groups taken = first_of stream.stage line groups (begun_of stream) taken.split taken.may

-- no group is damaged by the first line
pub first_not_damaged : (line : List ℕ) (number : ℕ) → IsLineFault [] [] line (Fault (Damaged number)) → ⊥
first_not_damaged line number (inl why) = absurd (cc why.0)
first_not_damaged line number (inr (inl why)) = absurd (cc why.0.lines_are)
first_not_damaged line number (inr (inr why)) =
    let is = why.1 in
    omega (arith, ap (λ (w : List (List ℕ)). length w) is.split, length-append is.whole why.0, ap (λ (w : List (List ℕ)). length w) is.journal.lines_are)

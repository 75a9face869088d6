-- What lines that count first have in common, whoever reads how many of them.
use Rattle.std.proofs.Common.{◌≡◌, ◌∙◌, ◌≤◌, ◌⊎◌, inl, inr, ℕ, ◌==◌, cond, List, [], ◌∷◌, ◌++◌, length, All, Option, Some, None, refl, sym, ap, arith, append_assoc, append-nil}
use Rattle.std.proofs.lemmas.Bool.{ne_eqb, eq-eqb, cond-false, cond-true}
use Rattle.std.proofs.lemmas.List.{append_cancel_left}
use Rattle.std.proofs.lemmas.List.Elements.{All-nil, All-head, All-tail}
use Rattle.mds_journal.specs.Lines.{recovered_texts, open_lines}
use Rattle.mds_check.specs.Crc.{crc32}
use Rattle.mds_check.specs.Form.{check_text, laid_out, IsText}
use Rattle.mds_check.proofs.FormLemmas.{check_text-length}
use Rattle.mds_groups.specs.Form.{header, lines_of, texts_in, IsJournal}
use Rattle.mds_groups.specs.Stream.{lines_before, IsFront, MayHave}
use Rattle.mds_groups.specs.declared.form.JournalForm.{JournalForm}
use Rattle.mds_groups.specs.declared.form.JournalForm.TheVariants.{Plain, Checked}
use Rattle.mds_groups.specs.declared.stream.Stage.{Stage}
use Rattle.mds_groups.specs.declared.stream.Stage.TheVariants.{First, FormCheck, Groups}
use Rattle.mds_groups.proofs.ChangeLemmas.{forms_differ}
use Rattle.mds_retention.specs.Telling.{Gives, HasTexts}

-- ---- lists

-- of texts that begin with some, the first ones begin with as many of these
pub front_of : (all rest some more : List (List ℕ)) → all ++ rest ≡ some ++ more → length some ≤ length all → (behind : List (List ℕ)) × (all ≡ some ++ behind)
front_of all rest [] more same few = (all, refl)
front_of [] rest (text ∷ some) more same few = absurd (omega (arith, few))
front_of (first ∷ all) rest (text ∷ some) more same few =
    let head : first ≡ text = cc in
    let tail : all ++ rest ≡ some ++ more = cc in
    let less : length some ≤ length all = omega (arith, few) in
    let next = front_of all rest some more tail less in
    (next.0, λ i. head i ∷ next.1 i)

-- ---- the texts among the lines of groups

-- those that aren't as long as a check
abbrev texts_among : List (List ℕ) → List (List ℕ)
texts_among [] = []
texts_among (line ∷ lines) = cond (length line == 20) (texts_among lines) (line ∷ texts_among lines)

among_text : (line : List ℕ) (lines : List (List ℕ)) → IsText line → texts_among (line ∷ lines) ≡ line ∷ texts_among lines
among_text line lines is = cond-false (length line == 20) (texts_among lines) (line ∷ texts_among lines) (ne_eqb (length line) 20 is)

among_check : (line : List ℕ) (lines : List (List ℕ)) → length line ≡ 20 → texts_among (line ∷ lines) ≡ texts_among lines
among_check line lines is = cond-true (length line == 20) (texts_among lines) (line ∷ texts_among lines) (eq-eqb (length line) 20 is)

among_group : (texts : List (List ℕ)) (check : List ℕ) (more : List (List ℕ)) → All IsText texts → length check ≡ 20 → texts_among (texts ++ check ∷ more) ≡ texts ++ texts_among more
among_group [] check more are is = among_check check more is
among_group (text ∷ texts) check more are is =
    among_text text (texts ++ check ∷ more) (All-head IsText text texts are) ∙ ap (λ (w : List (List ℕ)). text ∷ w) (among_group texts check more (All-tail IsText text texts are) is)

among_groups : (groups : List (List (List ℕ))) (more : List (List ℕ)) → All (All IsText) groups → texts_among (laid_out groups ++ more) ≡ texts_in groups ++ texts_among more
among_groups [] more are = refl
among_groups (group ∷ groups) more are =
    let check = check_text (crc32 (open_lines group)) in
    let first = All-head (All IsText) group groups are in
    ap texts_among (append_assoc group (check ∷ laid_out groups) more)
    ∙ among_group group check (laid_out groups ++ more) first (check_text-length (crc32 (open_lines group)))
    ∙ ap (λ (w : List (List ℕ)). group ++ w) (among_groups groups more (All-tail (All IsText) group groups are))
    ∙ sym (append_assoc group (texts_in groups) (texts_among more))

-- those of lines behind the first ones of a journal
abbrev texts_behind : JournalForm → List (List ℕ) → List (List ℕ)
texts_behind Plain lines = lines
texts_behind Checked lines = texts_among lines

-- ---- fronts of the same lines

-- behind the first lines come those of groups, and their texts are the first ones
record HasGroups (all texts : List (List ℕ)) : Type 0 where
  form : JournalForm
  lines : List (List ℕ)
  split : all ≡ header form ++ lines
  more : List (List ℕ)
  texts_are : texts_behind form lines ≡ texts ++ more

-- a front has no texts yet, or has groups
groups_of_front : (stage : Stage) (all lines more : List (List ℕ)) (groups : List (List (List ℕ))) (begun : List (List ℕ)) → all ≡ lines ++ more → lines ≡ lines_before stage groups ++ begun
    → MayHave stage groups begun → (texts_in groups ≡ []) ⊎ HasGroups all (texts_in groups)
groups_of_front First all lines more groups begun whole split may = inl (ap texts_in may.0)
groups_of_front FormCheck all lines more groups begun whole split may = inl (ap texts_in may.0)
groups_of_front (Groups Plain) all lines more groups begun whole split may =
    let head = header Plain in
    let texts = texts_in groups in
    inr (record {
      form = Plain;
      lines = texts ++ (begun ++ more);
      split = whole ∙ ap (λ (w : List (List ℕ)). w ++ more) split ∙ append_assoc (head ++ texts) begun more ∙ append_assoc head texts (begun ++ more);
      more = begun ++ more;
      texts_are = refl;
    })
groups_of_front (Groups Checked) all lines more groups begun whole split may =
    let head = header Checked in
    let laid = laid_out groups in
    inr (record {
      form = Checked;
      lines = laid ++ (begun ++ more);
      split = whole ∙ ap (λ (w : List (List ℕ)). w ++ more) split ∙ append_assoc (head ++ laid) begun more ∙ append_assoc head laid (begun ++ more);
      more = texts_among (begun ++ more);
      texts_are = among_groups groups (begun ++ more) may.0;
    })

-- there is one form
same_form : (one other : JournalForm) (lines more : List (List ℕ)) → header one ++ lines ≡ header other ++ more → texts_behind one lines ≡ texts_behind other more
same_form Plain Plain lines more same = append_cancel_left (header Plain) lines more same
same_form Plain Checked lines more same = absurd (forms_differ (sym (cc same)))
same_form Checked Plain lines more same = absurd (forms_differ (cc same))
same_form Checked Checked lines more same = ap texts_among (append_cancel_left (header Checked) lines more same)

-- of two fronts of the same lines, the one's texts begin with the other's
same_texts : (all lines more others rest : List (List ℕ)) (groups theirs : List (List (List ℕ))) → all ≡ lines ++ more → all ≡ others ++ rest → IsFront lines groups → IsFront others theirs
    → (x : List (List ℕ)) × (y : List (List ℕ)) × (texts_in groups ++ x ≡ texts_in theirs ++ y)
same_texts all lines more others rest groups theirs one other front behind =
    both (groups_of_front front.stage all lines more groups front.begun one front.split front.may)
    (groups_of_front behind.stage all others rest theirs behind.begun other behind.split behind.may) where
      both : (texts_in groups ≡ []) ⊎ HasGroups all (texts_in groups) → (texts_in theirs ≡ []) ⊎ HasGroups all (texts_in theirs)
          → (x : List (List ℕ)) × (y : List (List ℕ)) × (texts_in groups ++ x ≡ texts_in theirs ++ y)
      both (inl none) second = (texts_in theirs, [], ap (λ (w : List (List ℕ)). w ++ texts_in theirs) none ∙ sym (append-nil (texts_in theirs)))
      both (inr first) (inl none) = ([], texts_in groups, append-nil (texts_in groups) ∙ sym (ap (λ (w : List (List ℕ)). w ++ texts_in groups) none))
      both (inr first) (inr second) =
          (first.more, second.more, sym first.texts_are ∙ same_form first.form second.form first.lines second.lines (sym first.split ∙ second.split) ∙ second.texts_are)

-- the lines of a journal are the front of one
pub whole_front : (form : JournalForm) (lines : List (List ℕ)) (groups : List (List (List ℕ))) → IsJournal form lines groups → IsFront lines groups
whole_front Plain lines groups journal =
    record { stage = Groups Plain; begun = []; split = journal.lines_are ∙ sym (append-nil (header Plain ++ lines_of Plain groups)); may = (journal.texts_are, refl) }
whole_front Checked lines groups journal =
    record { stage = Groups Checked; begun = []; split = journal.lines_are ∙ sym (append-nil (header Checked ++ lines_of Checked groups)); may = (journal.texts_are, All-nil IsText) }

-- where no fewer texts are told by a journal with which known bytes begin, it has those that were handed out of them first
pub texts_front : (bytes : List ℕ) (texts lines more : List (List ℕ)) (form : JournalForm) (groups : List (List (List ℕ))) → HasTexts (Some bytes) texts → recovered_texts bytes ≡ lines ++ more
    → IsJournal form lines groups → length texts ≤ length (texts_in groups) → (behind : List (List ℕ)) × (texts_in groups ≡ texts ++ behind)
texts_front bytes texts lines more form groups has whole journal few = of_left has.counted.0 has.counted.1 where
  of_left : (left : Option (List ℕ)) → Gives (Some bytes) has.lines left → (behind : List (List ℕ)) × (texts_in groups ≡ texts ++ behind)
  of_left None given = absurd given
  of_left (Some rest) given =
      let both = same_texts (recovered_texts bytes) lines more has.lines (recovered_texts rest) groups has.groups whole given (whole_front form lines groups journal) has.front in
      let same : texts_in groups ++ both.0 ≡ texts ++ (has.rest ++ both.1) = both.2 ∙ ap (λ (w : List (List ℕ)). w ++ both.1) has.told ∙ append_assoc texts has.rest both.1 in
      front_of (texts_in groups) both.0 texts (has.rest ++ both.1) same few

-- What a stream has taken, line by line.
use Rattle.std.proofs.Common.{◌≡◌, ℕ, ◌+◌, ◌≤◌, List, [], ◌∷◌, ◌++◌, length, Some, None, All, refl, sym, ap, ◌∙◌, subst, arith, append_assoc, length-append}
use Rattle.std.proofs.lemmas.List.{append-nil}
use Rattle.std.proofs.lemmas.List.Elements.{All-nil, All-push}
use Rattle.mds_check.specs.Form.{CheckState, between_groups, behind_text, behind_texts, IsCheckOf, IsText}
use Rattle.mds_check.proofs.GroupLemmas.{behind_more}
use Rattle.mds_groups.specs.Form.{check_of, group_lines, IsJournal}
use Rattle.mds_groups.specs.Stream.{begun_of, lines_before, texts_of, HasTaken, MayHave, Takes}
use Rattle.mds_groups.specs.declared.form.JournalForm.TheVariants.{Checked}
use Rattle.mds_groups.specs.declared.stream.GroupStream.{GroupStream}
use Rattle.mds_groups.specs.declared.stream.Stage.{Stage}
use Rattle.mds_groups.specs.declared.stream.Stage.TheVariants.{Groups}
use Rattle.mds_groups.specs.declared.stream.WholeGroup.{WholeGroup}
use Rattle.mds_groups.proofs.JournalLemmas.{journal_more}

-- ---- a stream at a stage

module _ (stream : GroupStream) (stage : Stage) (lines : List (List ℕ)) (groups : List (List (List ℕ))) (at : stream.stage ≡ stage) where
  pub split_at : HasTaken stream lines groups → lines ≡ lines_before stage groups ++ begun_of stream
  split_at taken = subst (λ (w : Stage). lines ≡ lines_before w groups ++ begun_of stream) at taken.split

  pub may_at : HasTaken stream lines groups → MayHave stage groups (begun_of stream)
  may_at taken = subst (λ (w : Stage). MayHave w groups (begun_of stream)) at taken.may

  pub taken_at : lines ≡ lines_before stage groups ++ begun_of stream → MayHave stage groups (begun_of stream) → stream.check ≡ behind_texts (begun_of stream)
      → HasTaken stream lines groups
  taken_at split may check = record {
    split = subst (λ (w : Stage). lines ≡ lines_before w groups ++ begun_of stream) (sym at) split;
    may = subst (λ (w : Stage). MayHave w groups (begun_of stream)) (sym at) may;
    check = check;
  }

  -- where no group is begun
  pub taken_between : begun_of stream ≡ [] → lines ≡ lines_before stage groups → MayHave stage groups [] → stream.check ≡ between_groups → HasTaken stream lines groups
  taken_between none split may check =
      taken_at (split ∙ sym (append-nil (lines_before stage groups)) ∙ ap (λ (w : List (List ℕ)). lines_before stage groups ++ w) (sym none))
      (subst (MayHave stage groups) (sym none) may) (check ∙ ap behind_texts (sym none))

-- ---- groups

-- the place of a group's first line
begins_at : (before begun lines : List (List ℕ)) (number first : ℕ) → lines ≡ before ++ begun → number ≡ length lines
    → (length begun ≤ number → first + length begun ≡ number) → first ≡ length before
begins_at before begun lines number first split at is =
    let whole : number ≡ length before + length begun = at ∙ ap (λ (w : List (List ℕ)). length w) split ∙ length-append before begun in
    omega (arith, whole, is (omega (arith, whole)))

-- a text is one more of the group that is begun
pub takes_text : (old new : GroupStream) (number : ℕ) (line : List ℕ) → old.stage ≡ Groups Checked → new.stage ≡ Groups Checked → IsText line
    → begun_of new ≡ begun_of old ++ line ∷ [] → new.check ≡ behind_text old.check line
    → Takes old new number line None
takes_text old new number line from to text texts check lines groups taken at =
    let may = may_at old (Groups Checked) lines groups from taken in
    let before = lines_before (Groups Checked) groups in
    let split : lines ++ line ∷ [] ≡ before ++ begun_of new =
    ap (λ (w : List (List ℕ)). w ++ line ∷ []) (split_at old (Groups Checked) lines groups from taken) ∙ append_assoc before (begun_of old) (line ∷ [])
    ∙ ap (λ (w : List (List ℕ)). before ++ w) (sym texts) in
    let as_far : new.check ≡ behind_texts (begun_of new) =
    check ∙ ap (λ (w : CheckState). behind_text w line) taken.check ∙ sym (behind_more (begun_of old) line) ∙ ap behind_texts (sym texts) in
    let behind = taken_at new (Groups Checked) (lines ++ line ∷ []) groups to split
    (may.0, subst (All IsText) (sym texts) (All-push IsText (begun_of old) line may.1 text)) as_far in
    (subst (HasTaken new (lines ++ line ∷ [])) (sym (append-nil groups)) behind, tt)

-- its check ends the group
pub takes_check : (old new : GroupStream) (number : ℕ) (line : List ℕ) (group : WholeGroup) → old.stage ≡ Groups Checked → new.stage ≡ Groups Checked → IsCheckOf old.check line
    → texts_of group ≡ begun_of old → begun_of new ≡ [] → new.check ≡ between_groups
    → (length (begun_of old) ≤ number → group.first + length (begun_of old) ≡ number) → Takes old new number line (Some group)
takes_check old new number line group from to fits texts none check first lines groups taken at =
    let may = may_at old (Groups Checked) lines groups from taken in
    let before = lines_before (Groups Checked) groups in
    let is : line ≡ check_of (begun_of old) = subst (λ (w : CheckState). IsCheckOf w line) taken.check fits in
    let here : lines ++ line ∷ [] ≡ before ++ group_lines Checked (begun_of old) =
    ap (λ (w : List (List ℕ)). w ++ line ∷ []) (split_at old (Groups Checked) lines groups from taken) ∙ append_assoc before (begun_of old) (line ∷ [])
    ∙ ap (λ (w : List ℕ). before ++ (begun_of old ++ w ∷ [])) is in
    let more = journal_more Checked before groups (begun_of old) (record { lines_are = refl; texts_are = may.0 }) may.1 in
    let journal = subst (λ (w : List (List ℕ)). IsJournal Checked (lines ++ line ∷ []) (groups ++ w ∷ [])) (sym texts)
    (subst (λ (w : List (List ℕ)). IsJournal Checked w (groups ++ begun_of old ∷ [])) (sym here) more) in
    let begins : group.first ≡ length before = begins_at before (begun_of old) lines number group.first (split_at old (Groups Checked) lines groups from taken) at first in (
      taken_between new (Groups Checked) (lines ++ line ∷ []) (groups ++ texts_of group ∷ []) to none journal.lines_are (journal.texts_are, All-nil IsText) check,
      record { form = Checked; journal = journal; first = begins },
    )

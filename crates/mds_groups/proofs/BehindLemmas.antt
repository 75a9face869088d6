-- The group that lines begin with.
use Rattle.std.proofs.Common.{◌≡◌, ℕ, List, [], ◌∷◌, ◌++◌, length, drop, All, refl, sym, ap, ◌∙◌, subst, append_assoc}
use Rattle.std.proofs.lemmas.List.Elements.{All-head, All-tail}
use Rattle.mds_journal.specs.Lines.{open_lines}
use Rattle.mds_check.specs.Crc.{crc32}
use Rattle.mds_check.specs.Form.{IsText}
use Rattle.mds_check.proofs.FormLemmas.{check_text-length}
use Rattle.mds_groups.specs.Form.{check_of, group_lines}
use Rattle.mds_groups.specs.Behind.{BeginWithGroup}
use Rattle.mds_groups.specs.declared.form.JournalForm.TheVariants.{Checked}

abbrev first_of : List (List ℕ) → List ℕ
first_of [] = []
first_of (line ∷ lines) = line

-- where lines are texts and then one as long as a check, in two ways, these are the same
first_checks : (xs ys : List (List ℕ)) (a b : List ℕ) (r s : List (List ℕ)) → All IsText xs → All IsText ys → length a ≡ 20 → length b ≡ 20
    → xs ++ a ∷ r ≡ ys ++ b ∷ s → (xs ≡ ys) × (a ≡ b) × (r ≡ s)
first_checks [] [] a b r s these those one other is = (refl, ap first_of is, ap (drop 1) is)
first_checks [] (y ∷ ys) a b r s these those one other is = absurd (All-head IsText y ys those (ap length (sym (ap first_of is)) ∙ one))
first_checks (x ∷ xs) [] a b r s these those one other is = absurd (All-head IsText x xs these (ap length (ap first_of is) ∙ other))
first_checks (x ∷ xs) (y ∷ ys) a b r s these those one other is =
    let more = first_checks xs ys a b r s (All-tail IsText x xs these) (All-tail IsText y ys those) one other (ap (drop 1) is) in
    (ap (λ (w : List ℕ). w ∷ xs) (ap first_of is) ∙ ap (λ (w : List (List ℕ)). y ∷ w) more.0, more.1, more.2)

pub check_length : (texts : List (List ℕ)) → length (check_of texts) ≡ 20
check_length texts = check_text-length (crc32 (open_lines texts))

lines_of_group : (texts more : List (List ℕ)) → group_lines Checked texts ++ more ≡ texts ++ check_of texts ∷ more
lines_of_group texts more = append_assoc texts (check_of texts ∷ []) more

-- lines begin with one group
pub one_group : (lines texts more others rest : List (List ℕ)) → BeginWithGroup lines texts more → BeginWithGroup lines others rest → (texts ≡ others) × (more ≡ rest)
one_group lines texts more others rest one other =
    let same : texts ++ check_of texts ∷ more ≡ others ++ check_of others ∷ rest = sym (one.split ∙ lines_of_group texts more) ∙ other.split ∙ lines_of_group others rest in
    let is = first_checks texts others (check_of texts) (check_of others) more rest one.are other.are (check_length texts) (check_length others) same in
    (is.0, is.2)

-- where the first line that is as long as a check is none, with none
pub other_check : (lines xs : List (List ℕ)) (a : List ℕ) (r : List (List ℕ)) → All IsText xs → length a ≡ 20 → (a ≡ check_of xs → ⊥) → lines ≡ xs ++ a ∷ r
    → (texts more : List (List ℕ)) → BeginWithGroup lines texts more → ⊥
other_check lines xs a r are long differs split texts more group =
    let same : xs ++ a ∷ r ≡ texts ++ check_of texts ∷ more = sym split ∙ group.split ∙ lines_of_group texts more in
    let is = first_checks xs texts a (check_of texts) r more are group.are long (check_length texts) same in
    differs (is.1 ∙ ap check_of (sym is.0))

text_there : (texts : List (List ℕ)) (line : List ℕ) (more : List (List ℕ)) → All IsText (texts ++ line ∷ more) → IsText line
text_there [] line more all = All-head IsText line more all
text_there (text ∷ texts) line more all = text_there texts line more (All-tail IsText text (texts ++ line ∷ more) all)

-- nor where there is none as long
pub no_check : (lines : List (List ℕ)) → All IsText lines → (texts more : List (List ℕ)) → BeginWithGroup lines texts more → ⊥
no_check lines all texts more group =
    text_there texts (check_of texts) more (subst (λ (w : List (List ℕ)). All IsText w) (group.split ∙ lines_of_group texts more) all) (check_length texts)

-- where it is one, with that
pub with_check : (lines xs : List (List ℕ)) (a : List ℕ) (r : List (List ℕ)) → All IsText xs → a ≡ check_of xs → lines ≡ xs ++ a ∷ r → BeginWithGroup lines xs r
with_check lines xs a r are is split = record {
  are = are;
  split = split ∙ ap (λ (w : List ℕ). xs ++ w ∷ r) is ∙ sym (lines_of_group xs r);
}

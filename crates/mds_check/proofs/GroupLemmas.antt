-- Groups of lines, and what fits from a line on.
use Rattle.std.proofs.Common.{◌≡◌, ◌↔◌, inl, inr, ℕ, ◌==◌, Bool, true, false, not, IsTrue, List, [], ◌∷◌, ◌++◌, length, All, refl, sym, ap, ◌∙◌, subst, append_assoc}
use Rattle.std.proofs.lemmas.Bool.{cases_eq, ne_eqb, eq-eqb, cond-false, cond-true}
use Rattle.std.proofs.lemmas.List.{append-nil, append_cancel_left}
use Rattle.std.proofs.lemmas.List.Elements.{All-nil, All-cons, All-head, All-tail, All-append}
use Rattle.mds_journal.specs.Lines.{open_lines}
use Rattle.mds_journal.proofs.LineLemmas.{open_lines-append}
use Rattle.mds_check.specs.Crc.{after_bytes, crc32}
use Rattle.mds_check.specs.Form.{check_text, IsText, laid_out, with_text, groups_of, IsChecked, CheckState, between_groups, behind_text, behind_texts, is_begun, FitsFrom, HasTaken}
use Rattle.mds_check.proofs.StateLemmas.{after_bytes-append}
use Rattle.mds_check.proofs.FormLemmas.{check_text-length}

-- ---- the groups of lines

text_first : (text : List ℕ) (lines : List (List ℕ)) → IsText text → groups_of (text ∷ lines) ≡ with_text text (groups_of lines)
text_first text lines is =
    cond-false (length text == 20) ([] ∷ groups_of lines) (with_text text (groups_of lines)) (ne_eqb (length text) 20 is)

check_first : (check : List ℕ) (lines : List (List ℕ)) → length check ≡ 20 → groups_of (check ∷ lines) ≡ [] ∷ groups_of lines
check_first check lines is =
    cond-true (length check == 20) ([] ∷ groups_of lines) (with_text check (groups_of lines)) (eq-eqb (length check) 20 is)

-- texts and a check are a group
group_first : (texts : List (List ℕ)) (check : List ℕ) (lines : List (List ℕ)) → All IsText texts → length check ≡ 20
    → groups_of (texts ++ check ∷ lines) ≡ texts ∷ groups_of lines
group_first [] check lines are is = check_first check lines is
group_first (text ∷ texts) check lines are is =
    text_first text (texts ++ check ∷ lines) (All-head IsText text texts are)
    ∙ ap (with_text text) (group_first texts check lines (All-tail IsText text texts are) is)

-- texts alone are none
no_group : (texts : List (List ℕ)) → All IsText texts → groups_of texts ≡ []
no_group [] are = refl
no_group (text ∷ texts) are =
    text_first text texts (All-head IsText text texts are) ∙ ap (with_text text) (no_group texts (All-tail IsText text texts are))

-- the groups of lines that were laid out are those that were laid out
pub groups_read_back : (groups : List (List (List ℕ))) → All (All IsText) groups → groups_of (laid_out groups) ≡ groups
groups_read_back [] are = refl
groups_read_back (group ∷ groups) are =
    let check = crc32 (open_lines group) in
    group_first group (check_text check) (laid_out groups) (All-head (All IsText) group groups are) (check_text-length check)
    ∙ ap (λ (rest : List (List (List ℕ))). group ∷ rest) (groups_read_back groups (All-tail (All IsText) group groups are))

-- ---- what fits from a line on

begun_more : (texts : List (List ℕ)) (text : List ℕ) → is_begun (texts ++ text ∷ []) ≡ true
begun_more [] text = refl
begun_more (first ∷ texts) text = refl

pub behind_more : (texts : List (List ℕ)) (text : List ℕ) → behind_texts (texts ++ text ∷ []) ≡ behind_text (behind_texts texts) text
behind_more texts text =
    let state : after_bytes 0xFFFF_FFFF (open_lines (texts ++ text ∷ [])) ≡ after_bytes (after_bytes 0xFFFF_FFFF (open_lines texts)) (open_lines (text ∷ [])) =
    ap (after_bytes 0xFFFF_FFFF) (open_lines-append texts (text ∷ [])) ∙ after_bytes-append 0xFFFF_FFFF (open_lines texts) (open_lines (text ∷ [])) in
    let begun = begun_more texts text in
    cc (state, begun)

-- where nothing is left, no text may be
fits_end : (texts : List (List ℕ)) → All IsText texts → IsChecked (texts ++ []) ↔ (is_begun texts ≡ false)
fits_end [] are = (λ checked. refl, λ fits. refl)
fits_end (text ∷ texts) are =
    let none : laid_out (groups_of ((text ∷ texts) ++ [])) ≡ [] =
    ap (λ (lines : List (List ℕ)). laid_out (groups_of lines)) (append-nil (text ∷ texts)) ∙ ap laid_out (no_group (text ∷ texts) are) in
    (λ checked. absurd (cc (none, checked)), λ fits. absurd cc)

-- lines behind texts of a group are checked where they fit from there on
fits_is : (texts lines : List (List ℕ)) → All IsText texts → IsChecked (texts ++ lines) ↔ FitsFrom (behind_texts texts) lines
fits_is texts [] are = fits_end texts are
fits_is texts (line ∷ lines) are = elim (cases_eq (length line) 20) [
  | inl is ↦
      let check = check_text (crc32 (open_lines texts)) in
      let rest = laid_out (groups_of lines) in
      let whole : laid_out (groups_of (texts ++ line ∷ lines)) ≡ texts ++ check ∷ rest = ap laid_out (group_first texts line lines are is) in
      let later = fits_is [] lines (All-nil IsText) in (
        λ checked.
            let tail : check ∷ rest ≡ line ∷ lines = append_cancel_left texts (check ∷ rest) (line ∷ lines) (sym whole ∙ checked) in
            let fits : line ≡ check = cc tail in
            let behind : rest ≡ lines = cc tail in
            (λ text. absurd (text is), λ _. (fits, later.0 behind)),
        λ fits.
            let both = fits.1 is in
            let behind : rest ≡ lines = later.1 both.1 in
            let tail : check ∷ rest ≡ line ∷ lines = cc (both.0, behind) in
            whole ∙ ap (λ (more : List (List ℕ)). texts ++ more) tail,
      )
  | inr text ↦
      let assoc : (texts ++ line ∷ []) ++ lines ≡ texts ++ line ∷ lines = append_assoc texts (line ∷ []) lines in
      let later = fits_is (texts ++ line ∷ []) lines (All-append IsText texts (line ∷ []) are (All-cons IsText line [] text (All-nil IsText))) in
      let behind = behind_more texts line in (
        λ checked.
            (λ _. subst (λ (check : CheckState). FitsFrom check lines) behind (later.0 (subst IsChecked (sym assoc) checked)), λ is. absurd (text is)),
        λ fits.
            subst IsChecked assoc (later.1 (subst (λ (check : CheckState). FitsFrom check lines) (sym behind) (fits.0 text))),
      )
]

-- nothing has been taken yet
pub taken_none : HasTaken between_groups []
taken_none later = fits_is [] later (All-nil IsText)

-- the lines that have been taken are checked where no group is begun
pub taken_whole : (check : CheckState) (lines : List (List ℕ)) → HasTaken check lines → IsTrue (not check.begun) ↔ IsChecked lines
taken_whole check lines taken = by_begun check.begun refl where
  ends : IsChecked (lines ++ []) ↔ (check.begun ≡ false)
  ends = taken []

  by_begun : (begun : Bool) → check.begun ≡ begun → IsTrue (not begun) ↔ IsChecked lines
  by_begun true is = (λ no. absurd cc, λ checked. let end = ends.0 (subst IsChecked (sym (append-nil lines)) checked) in absurd (cc (is, end)))
  by_begun false is = (λ _. subst IsChecked (append-nil lines) (ends.1 is), λ _. refl)

-- ---- whole groups

-- lines that were laid out are checked
pub laid_out_checked : (groups : List (List (List ℕ))) → All (All IsText) groups → IsChecked (laid_out groups)
laid_out_checked groups are = ap laid_out (groups_read_back groups are)

-- texts and their check are a group
pub group_checked : (texts : List (List ℕ)) → All IsText texts → IsChecked (texts ++ check_text (crc32 (open_lines texts)) ∷ [])
group_checked texts are = laid_out_checked (texts ∷ []) (All-cons (All IsText) texts [] are (All-nil (All IsText)))

-- where no group is begun, the check is at its start
abbrev IsAtStart : CheckState → Type 0
IsAtStart check = check.begun ≡ false → check ≡ between_groups

-- what fits from a place on, and then whole groups
fits_both : (check : CheckState) (lines more : List (List ℕ)) → IsAtStart check → FitsFrom check lines → FitsFrom between_groups more → FitsFrom check (lines ++ more)
fits_both check [] more start fits later = subst (λ (w : CheckState). FitsFrom w more) (sym (start fits)) later
fits_both check (line ∷ lines) more start fits later = (
  λ text. fits_both (behind_text check line) lines more (λ begun. absurd cc) (fits.0 text) later,
  λ is. let both = fits.1 is in (both.0, fits_both between_groups lines more (λ begun. refl) both.1 later),
)

-- whole groups behind whole groups are whole groups
pub checked_both : (lines more : List (List ℕ)) → IsChecked lines → IsChecked more → IsChecked (lines ++ more)
checked_both lines more one other =
    let fits = (taken_none lines).0 one in
    let later = (taken_none more).0 other in
    (taken_none (lines ++ more)).1 (fits_both between_groups lines more (λ begun. refl) fits later)

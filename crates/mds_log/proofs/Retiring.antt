-- Each step keeps the rule of a book of marks.
use Rattle.std.proofs.Common.{◌≡◌, ℕ, zero, suc, ◌<◌, ◌==◌, ◌⊎◌, inl, inr, Bool, true, false, List, [], ◌∷◌, ◌++◌, length, slice_set, None, refl, sym, ap, ◌∙◌, subst, arith, length-append}
use Rattle.std.proofs.lemmas.List.{append-nil}
use prog.Atomic.{either}
use Rattle.logbook.specs.Pages.{Cell, cell, Nib, no_nib, may_write, gives, adds, step, Moves}
use Rattle.mds_log.specs.Marks.{Has, HasNot, IsRolled, MakesMark, Retires}
use Rattle.mds_log.proofs.Lists.{prefix_get, get_last}
use Rattle.mds_log.proofs.Cells.{home_set, home_more, set_here, set_length, head_set, head_more}

-- clients see nothing, and nothing moves
abbrev pub marks_shown : List ℕ → List ℕ
marks_shown log = []

abbrev pub marks_moved : ℕ → List ℕ → List ℕ → ℕ → Type 0
marks_moved ask xs ys n = Unit {0}

-- a book of marks with nothing in it
pub none_rolled : IsRolled ((0, true) ∷ (0, true) ∷ []) []
none_rolled = record { some = omega arith; head = refl; spent = λ number has. absurd (cc (has.1)) }

-- an exchange of 0 for 0
zero_either : (b : Bool) (n : ℕ) → n ≡ 0 → either b 0 n ≡ 0
zero_either true n is = refl
zero_either false n is = is

-- a number that stands in a list with one behind it is that one, or stood in the list
has_push : (log : List ℕ) (x number : ℕ) → Has (log ++ x ∷ []) number → (number ≡ x) ⊎ Has log number
has_push [] x number (zero, is) = inl (cc (is))
has_push [] x number (suc place, is) = absurd (cc (is))
has_push (y ∷ log) x number (zero, is) = inr (0, is)
has_push (y ∷ log) x number (suc place, is) = later (has_push log x number (place, is)) where
  later : (number ≡ x) ⊎ Has log number → (number ≡ x) ⊎ Has (y ∷ log) number
  later (inl same) = inl same
  later (inr has) = inr (suc has.0, has.1)

-- the word is 0 still, and a mark is made
pub marks_moves : (v : List ℕ) (e : ℕ) → Moves IsRolled marks_shown (marks_moved e) 0 (v, (no_nib, None)) (λ n. either (n == 0) 0 n) (MakesMark (step 0 0 0 e) (v, (no_nib, None)))
marks_moves v e cs log kept pre away =
    (kept.some, ap (λ c. c.1) kept.head, (adds, [], None, tt, made _ (zero_either ((cell cs 0).0 == 0) (cell cs 0).0 (ap (λ c. c.0) kept.head)), inl (refl, refl), refl)) where
      made : (n : ℕ) → n ≡ 0 → IsRolled (slice_set cs 0 (n, true) ++ (0, false) ∷ []) (log ++ [])
      made n is =
          let ds : List Cell = slice_set cs 0 (n, true) in
          let below : 0 < length ds = omega (arith, kept.some, set_length cs 0 (n, true)) in record {
            some = omega (arith, length-append ds ((0, false) ∷ []));
            head = head_more ds (0, false) below ∙ (set_here cs 0 (n, true) kept.some ∙ ap (λ (k : ℕ). (k, true)) is);
            spent = λ number has. home_more ds number (home_set cs 0 n number (kept.spent number (subst (λ (l : List ℕ). Has l number) (append-nil log) has)));
          }

-- the mark's number is written, which was not written before
pub retires_moves : (v : List ℕ) (p : Nib) → p.right ≡ may_write → Moves IsRolled marks_shown (marks_moved p.key) 0 (v, (p, None)) (λ n. either (n == 0) 0 n) (Retires (step 0 0 0 p.key) (v, (p, None)))
retires_moves v p right cs log kept pre away =
    let out = away right in
    (kept.some, ap (λ c. c.1) kept.head, (gives, p.key ∷ [], None, right, rolled out.0 out.1 _ (zero_either ((cell cs 0).0 == 0) (cell cs 0).0 (ap (λ c. c.0) kept.head)), inl (refl, refl), (fresh out.1, (length log, get_last log p.key)))) where
      fresh : (cell cs p.key).1 ≡ false → HasNot v p.key
      fresh away has =
          let home : (cell cs p.key).1 ≡ true = kept.spent p.key (has.0, prefix_get v log has.0 p.key pre has.1) in
          absurd (cc (home, away))

      rolled : p.key < length cs → (cell cs p.key).1 ≡ false → (n : ℕ) → n ≡ 0 → IsRolled (slice_set (slice_set cs 0 (n, true)) p.key (p.value, true)) (log ++ p.key ∷ [])
      rolled below away n is =
          let ds : List Cell = slice_set cs 0 (n, true) in
          let es : List Cell = slice_set ds p.key (p.value, true) in
          let here : (cell es p.key).1 ≡ true = ap (λ c. c.1) (set_here ds p.key (p.value, true) (omega (arith, below, set_length cs 0 (n, true)))) in
          let one : (number : ℕ) → (number ≡ p.key) ⊎ Has log number → (cell es number).1 ≡ true = λ number has. by_case number here has in record {
            some = omega (arith, kept.some, set_length cs 0 (n, true), set_length ds p.key (p.value, true));
            head = head_set cs n p.key p.value kept.some (ap (λ c. c.1) kept.head) away ∙ ap (λ (k : ℕ). (k, true)) is;
            spent = λ number has. one number (has_push log p.key number has);
          } where
            by_case : (number : ℕ) → (cell (slice_set (slice_set cs 0 (n, true)) p.key (p.value, true)) p.key).1 ≡ true → (number ≡ p.key) ⊎ Has log number
                → (cell (slice_set (slice_set cs 0 (n, true)) p.key (p.value, true)) number).1 ≡ true
            by_case number here (inl same) = subst (λ (k : ℕ). (cell (slice_set (slice_set cs 0 (n, true)) p.key (p.value, true)) k).1 ≡ true) (sym same) here
            by_case number here (inr has) = home_set (slice_set cs 0 (n, true)) p.key p.value number (home_set cs 0 n number (kept.spent number has))

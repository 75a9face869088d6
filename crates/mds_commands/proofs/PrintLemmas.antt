-- Texts that go out one after the other, behind what waits on a page.
use Rattle.std.proofs.Common.{◌≡◌, ◌∙◌, ℕ, ◌+◌, ◌<◌, ◌≤◌, List, ◌∷◌, ◌++◌, length, drop, Option, Some, slice_get, ap, subst, sym, arith, append_assoc, append-nil, length-append}
use Rattle.std.specs.List.{flat_map}
use Rattle.std.proofs.lemmas.List.{drop_all}
use Rattle.std.proofs.lemmas.Option.{get_or_from_slice_get, slice_get_within}
use Rattle.mds_io.specs.Page.{AppendsFront, Passes, with_newline}
use Rattle.mds_io.proofs.PageLemmas.{passes_then, passes_front, passes_line, front_of_line, front_of_more, next_item}

module _ (page first second : List ℕ) where
  -- a front of the first went out, so one of both
  pub front_of_both : (old new : Option (List ℕ)) → AppendsFront old new (page ++ first) → AppendsFront old new (page ++ (first ++ second))
  front_of_both old new front = subst (AppendsFront old new) (append_assoc page first second) (front_of_more old new (page ++ first) second front)

  -- the first passed, and of the second nothing went out, where it has something
  pub first_passed : (left : List ℕ) (old new : Option (List ℕ)) → 0 < length second → Passes old new (page ++ first) left
      → AppendsFront old new (page ++ (first ++ second))
  first_passed left old new some passed =
      let split : (page ++ first) ++ second ≡ passed.0 ++ (left ++ second) = ap (λ t. t ++ second) passed.1 ∙ append_assoc passed.0 left second in
      subst (AppendsFront old new) (append_assoc page first second)
      (passed.0, left ++ second, rw length-append (omega (arith, some)), split, passed.2)

  module _ (between : List ℕ) (old middle new : Option (List ℕ)) where
    -- the first passed, and so did the second
    pub both_pass : (left : List ℕ) → Passes old middle (page ++ first) between → Passes middle new (between ++ second) left
        → Passes old new (page ++ (first ++ second)) left
    both_pass left one two =
        subst (λ text. Passes old new text left) (append_assoc page first second) (passes_then old middle new (page ++ first) between second left one two)

    -- the first passed, and of the second a front went out
    pub second_stops : Passes old middle (page ++ first) between → AppendsFront middle new (between ++ second)
        → AppendsFront old new (page ++ (first ++ second))
    second_stops one two =
        subst (AppendsFront old new) (append_assoc page first second) (passes_front old middle new (page ++ first) between second one two)

-- a text that ends with a line has something
pub line_last : (text line : List ℕ) → 0 < length (text ++ with_newline line)
line_last text line = rw (length-append, length-append) (omega arith)

-- a text for each item of a list, of which all went out but the page and the texts from the i-th on
module _ {X : Type 0} (xs : List X) (text : X → List ℕ) (old now : Option (List ℕ)) (whole page : List ℕ) (i : ℕ)
    (waiting : Passes old now whole (page ++ flat_map text (drop i xs))) where
  begins : (x : X) → Some x ≡ slice_get xs i → Passes old now whole (page ++ (text x ++ flat_map text (drop (i + 1) xs)))
  begins x got =
      let next : drop i xs ≡ x ∷ drop (i + 1) xs = next_item xs i x (slice_get_within xs i x (sym got)) (sym (get_or_from_slice_get xs i x x (sym got))) in
      subst (λ left. Passes old now whole (page ++ flat_map text left)) next waiting

  -- one text more
  pub text_added : (x : X) (new : Option (List ℕ)) (next : List ℕ) → Some x ≡ slice_get xs i → Passes now new (page ++ text x) next
      → Passes old new whole (next ++ flat_map text (drop (i + 1) xs))
  text_added x new next got passes = passes_line old now new whole page (text x) (flat_map text (drop (i + 1) xs)) next (begins x got) passes

  -- a text at which it stopped
  pub text_stopped : (x : X) (new : Option (List ℕ)) → Some x ≡ slice_get xs i → AppendsFront now new (page ++ text x) → AppendsFront old new whole
  text_stopped x new got front = front_of_line old now new whole page (text x) (flat_map text (drop (i + 1) xs)) (begins x got) front

  -- at the end only the page is left
  pub page_left : length xs ≤ i → Passes old now whole page
  page_left all = subst (Passes old now whole) (ap (λ left. page ++ flat_map text left) (drop_all i xs all) ∙ append-nil page) waiting

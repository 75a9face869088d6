-- What marks keep of a list: with a mark more, of a longer list, with marks that keep nothing, of one vehicle.
use Rattle.std.proofs.Common.{◌≡◌, ℕ, zero, suc, ◌+◌, ◌-◌, ◌≤◌, List, [], ◌∷◌, ◌++◌, length, map, take, replicate, cond, Bool, true, false, refl, sym, ◌∙◌, ap, arith, length-append}
use Rattle.std.proofs.lemmas.List.{map-append, length-map, length-replicate}
use Rattle.mds_core.specs.declared.key.Key.{Key}
use Rattle.mds_core.specs.declared.request.Request.{Request}
use Rattle.mds_core.specs.History.{key_of, requests_of, same_key}
use Rattle.mds_compact.specs.Compaction.{kept_of}
use Rattle.mds_compact.specs.Path.{marks_up_to}
use Rattle.mds_compact.specs.Passes.{marks_of}

module _ {A : Type 0} where
  -- a mark more for an item more
  pub kept_more : (marks : List Bool) (all : List A) (mark : Bool) (item : A) → length marks ≡ length all
      → kept_of (marks ++ mark ∷ []) (all ++ item ∷ []) ≡ kept_of marks all ++ cond mark (item ∷ []) []
  kept_more [] [] mark item same = refl
  kept_more [] (first ∷ all) mark item same = absurd (omega arith)
  kept_more (one ∷ marks) [] mark item same = absurd (omega arith)
  kept_more (true ∷ marks) (first ∷ all) mark item same = let less : length marks ≡ length all = omega arith in ap (λ rest. first ∷ rest) (kept_more marks all mark item less)
  kept_more (false ∷ marks) (first ∷ all) mark item same = let less : length marks ≡ length all = omega arith in kept_more marks all mark item less

  -- marks of a front keep the same of a longer list
  pub kept_longer : (marks : List Bool) (all more : List A) → length marks ≤ length all → kept_of marks (all ++ more) ≡ kept_of marks all
  kept_longer [] all more within = refl
  kept_longer (one ∷ marks) [] more within = absurd (omega arith)
  kept_longer (true ∷ marks) (first ∷ all) more within = let less : length marks ≤ length all = omega arith in ap (λ rest. first ∷ rest) (kept_longer marks all more less)
  kept_longer (false ∷ marks) (first ∷ all) more within = let less : length marks ≤ length all = omega arith in kept_longer marks all more less

  none_kept : (count : ℕ) (all : List A) → kept_of (replicate count false) all ≡ []
  none_kept zero all = refl
  none_kept (suc count) [] = refl
  none_kept (suc count) (first ∷ all) = none_kept count all

  -- marks that keep nothing add nothing
  pub kept_nothing_more : (marks : List Bool) (count : ℕ) (all : List A) → kept_of (marks ++ replicate count false) all ≡ kept_of marks all
  kept_nothing_more [] count all = none_kept count all
  kept_nothing_more (one ∷ marks) count [] = refl
  kept_nothing_more (true ∷ marks) count (first ∷ all) = ap (λ rest. first ∷ rest) (kept_nothing_more marks count all)
  kept_nothing_more (false ∷ marks) count (first ∷ all) = kept_nothing_more marks count all

  -- of nothing nothing is kept
  pub kept_nil : (marks : List Bool) → kept_of {A = A} marks [] ≡ []
  kept_nil [] = refl
  kept_nil (one ∷ marks) = refl

pub length-marks_up_to : (count : ℕ) (marks : List Bool) → length (marks_up_to count marks) ≡ length marks
length-marks_up_to count marks =
    let front = take count marks in
    let few = length_take_few count marks in
    length-append front (replicate (length marks - length front) false) ∙ ap (λ n. length front + n) (length-replicate (length marks - length front) false) ∙ omega arith where
      length_take_few : (n : ℕ) (all : List Bool) → length (take n all) ≤ length all
      length_take_few zero all = omega arith
      length_take_few (suc n) [] = omega arith
      length_take_few (suc n) (one ∷ all) = omega (arith, length_take_few n all)

-- the marks up to a place are the same, whatever comes behind a later one
pub front_same : (marks more : List Bool) (count later : ℕ) → count ≤ later → later ≤ length marks → take count (take later marks ++ more) ≡ take count marks
front_same marks more zero later before within = refl
front_same marks more (suc count) zero before within = absurd (omega arith)
front_same [] more (suc count) (suc later) before within = absurd (omega arith)
front_same (one ∷ marks) more (suc count) (suc later) before within =
    let less : count ≤ later = omega arith in
    let inside : later ≤ length marks = omega arith in
    ap (λ rest. one ∷ rest) (front_same marks more count later less inside)

-- what is kept of one vehicle's requests
pub requests_of-kept : (marks : List Bool) (history : List Request) (key : Key) → requests_of (kept_of marks history) key ≡ kept_of (marks_of marks history key) (requests_of history key)
requests_of-kept [] [] key = refl
requests_of-kept [] (request ∷ history) key = refl
requests_of-kept (mark ∷ marks) [] key = refl
requests_of-kept (mark ∷ marks) (request ∷ history) key = by_both (same_key (key_of request) key) mark refl (requests_of-kept marks history key) where
  by_both : (ours one : Bool) → same_key (key_of request) key ≡ ours → requests_of (kept_of marks history) key ≡ kept_of (marks_of marks history key) (requests_of history key)
      → requests_of (cond one (request ∷ kept_of marks history) (kept_of marks history)) key
      ≡ kept_of (cond ours (one ∷ marks_of marks history key) (marks_of marks history key)) (cond ours (request ∷ requests_of history key) (requests_of history key))
  by_both true true is rest = ap (λ b. cond b (request ∷ requests_of (kept_of marks history) key) (requests_of (kept_of marks history) key)) is ∙ ap (λ tail. request ∷ tail) rest
  by_both true false is rest = rest
  by_both false true is rest = ap (λ b. cond b (request ∷ requests_of (kept_of marks history) key) (requests_of (kept_of marks history) key)) is ∙ rest
  by_both false false is rest = rest

-- a mark more is the vehicle's where the request is
pub marks_of-more : (marks : List Bool) (history : List Request) (mark : Bool) (request : Request) (key : Key) → length marks ≡ length history
    → marks_of (marks ++ mark ∷ []) (history ++ request ∷ []) key ≡ marks_of marks history key ++ cond (same_key (key_of request) key) (mark ∷ []) []
marks_of-more marks history mark request key same =
    let ours : Request → Bool = λ one. same_key (key_of one) key in
    ap (λ tests. kept_of tests (marks ++ mark ∷ [])) (map-append ours history (request ∷ []))
    ∙ kept_more (map ours history) marks (ours request) mark (length-map history ours ∙ sym same)

-- so many marks are the vehicle's as requests
pub length-marks_of : (marks : List Bool) (history : List Request) (key : Key) → length marks ≡ length history → length (marks_of marks history key) ≡ length (requests_of history key)
length-marks_of [] [] key same = refl
length-marks_of [] (request ∷ history) key same = absurd (omega arith)
length-marks_of (mark ∷ marks) [] key same = absurd (omega arith)
length-marks_of (mark ∷ marks) (request ∷ history) key same = by_ours (same_key (key_of request) key) (length-marks_of marks history key (omega arith)) where
  by_ours : (ours : Bool) → length (marks_of marks history key) ≡ length (requests_of history key) → length (cond ours (mark ∷ marks_of marks history key) (marks_of marks history key)) ≡ length (cond ours (request ∷ requests_of history key) (requests_of history key))
  by_ours true behind = ap suc behind
  by_ours false behind = behind

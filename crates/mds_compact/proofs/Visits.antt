-- Visits behind which one more stands.
use Rattle.std.proofs.Common.{◌≡◌, ◌⊎◌, inl, inr, ℕ, zero, suc, ◌+◌, ◌<◌, ◌≤◌, List, [], ◌∷◌, ◌++◌, length, map, take, get_or, cond, not, position, ◌||◌, Some, None, Bool, true, false, nat_eq, nat_lt, refl, sym, ◌∙◌, ap, subst, arith}
use Rattle.std.specs.Prelude.{slice_get}
use Rattle.std.specs.List.{IsDistinct, AllByRecursion, list_any, position_or_len}
use Rattle.std.specs.Cmp.{nat_eq_equiv}
use Rattle.std.proofs.lemmas.List.{map-append, length-map}
use Rattle.std.proofs.lemmas.List.Quantifiers.{position-Some}
use Rattle.std.proofs.lemmas.Option.{slice_get-get_or}
use Rattle.std.proofs.lemmas.Bool.Decides.{nat_tests}
use Rattle.std.proofs.lemmas.Map.Keys.{IsDistinct-push}
use Rattle.std.proofs.lemmas.Map.Steps.{length-le_from_distinct_below}
use Rattle.mds_table.specs.declared.state.State.{State}
use Rattle.mds_table.specs.State.{code_of}
use Rattle.mds_compact.specs.declared.path.Visit.{Visit}
use Rattle.mds_compact.proofs.Codes.{code_below, code_one}

-- what stands at a place of a front and one more item behind it
pub standing_at : {A : Type 0} (all : List A) (place at : ℕ) (item found : A) → place ≤ length all → slice_get (take place all ++ item ∷ []) at ≡ Some found
    → ((at < place) × (slice_get all at ≡ Some found)) ⊎ ((at ≡ place) × (item ≡ found))
standing_at all zero zero item found within is = inr (refl, cc)
standing_at all zero (suc at) item found within is = absurd cc
standing_at [] (suc place) at item found within is = absurd (omega arith)
standing_at (first ∷ all) (suc place) zero item found within is = inl (omega arith, is)
standing_at (first ∷ all) (suc place) (suc at) item found within is =
    let less : place ≤ length all = omega arith in
    elim (standing_at all place at item found less is) [ inl front ↦ let before : suc at < suc place = omega (arith, front.0) in inl (before, front.1) | inr last ↦ inr (ap suc last.0, last.1) ]

all_front : {A : Type 0} (P : A → Type 0) (all : List A) (count : ℕ) → AllByRecursion P all → AllByRecursion P (take count all)
all_front P all zero each = tt
all_front P [] (suc count) each = tt
all_front P (first ∷ all) (suc count) each = (each.0, all_front P all count each.1)

-- a front of a list without repeats has none
distinct_front : (all : List ℕ) (count : ℕ) → IsDistinct nat_eq all → IsDistinct nat_eq (take count all)
unfolding IsDistinct
distinct_front all zero apart = tt
distinct_front [] (suc count) apart = tt
distinct_front (first ∷ all) (suc count) apart = (all_front (λ other. nat_eq first other ≡ false) all count apart.0, distinct_front all count apart.1)

take_map : {A B : Type 0} (f : A → B) (all : List A) (count : ℕ) → map f (take count all) ≡ take count (map f all)
take_map f all zero = refl
take_map f [] (suc count) = refl
take_map f (first ∷ all) (suc count) = ap (λ rest. f first ∷ rest) (take_map f all count)

-- the codes of the states that were visited
abbrev pub codes_of : List Visit → List ℕ
codes_of visits = map (λ visit. code_of visit.state) visits

-- one alone has no repeat
pub distinct_one : (code : ℕ) → IsDistinct nat_eq (code ∷ [])
unfolding IsDistinct
distinct_one code = (tt, tt)

below_nine : (visits : List Visit) (code : ℕ) → list_any (nat_eq code) (codes_of visits) ≡ true → code < 9
below_nine [] code there = absurd cc
below_nine (visit ∷ visits) code there = by_first (nat_eq code (code_of visit.state)) refl (below_nine visits code) there where
  by_first : (b : Bool) → nat_eq code (code_of visit.state) ≡ b → (list_any (nat_eq code) (codes_of visits) ≡ true → code < 9) → (b || list_any (nat_eq code) (codes_of visits)) ≡ true → code < 9
  by_first true is rest there_ = let below : code_of visit.state < 9 = code_below visit.state in grind (arith, nat_tests)
  by_first false is rest there_ = rest there_

-- there are no more visits than states
pub visits_few : (visits : List Visit) → IsDistinct nat_eq (codes_of visits) → length visits ≤ 9
visits_few visits apart = omega (arith, length-le_from_distinct_below (codes_of visits) 9 apart (below_nine visits), length-map visits (λ visit. code_of visit.state))

-- visits stay apart with one more behind a front of them, at a state that isn't among these
pub apart_more : (visits : List Visit) (place : ℕ) (visit : Visit) → IsDistinct nat_eq (codes_of visits) → list_any (nat_eq (code_of visit.state)) (take place (codes_of visits)) ≡ false
    → IsDistinct nat_eq (codes_of (take place visits ++ visit ∷ []))
apart_more visits place visit apart none =
    let P : List ℕ → Type 0 = λ codes. IsDistinct nat_eq codes in
    let front : IsDistinct nat_eq (take place (codes_of visits)) = distinct_front (codes_of visits) place apart in
    let same = map-append (λ v. code_of v.state) (take place visits) (visit ∷ []) ∙ ap (λ codes. codes ++ code_of visit.state ∷ []) (take_map (λ v. code_of v.state) visits place) in
    subst P (sym same) (IsDistinct-push nat_eq_equiv (take place (codes_of visits)) (code_of visit.state) front none)

either_way : (b : Bool) → (b || true) ≡ true
either_way false = refl
either_way true = refl

-- the state of a visit is among those visited
is_visited : (visits : List Visit) (place : ℕ) (visit : Visit) → slice_get visits place ≡ Some visit → list_any (nat_eq (code_of visit.state)) (codes_of visits) ≡ true
is_visited [] place visit at = absurd cc
is_visited (first ∷ visits) zero visit at =
    let same : first ≡ visit = cc in
    let yes : nat_eq (code_of visit.state) (code_of first.state) ≡ true = ap (λ (one : Visit). nat_eq (code_of visit.state) (code_of one.state)) same ∙ nat_eq_equiv.refl (code_of visit.state) in
    ap (λ b. b || list_any (nat_eq (code_of visit.state)) (codes_of visits)) yes
is_visited (first ∷ visits) (suc place) visit at =
    ap (λ b. nat_eq (code_of visit.state) (code_of first.state) || b) (is_visited visits place visit at) ∙ either_way (nat_eq (code_of visit.state) (code_of first.state))

-- what is among others isn't one that is apart from these
differs : (codes : List ℕ) (code other : ℕ) → list_any (nat_eq code) codes ≡ true → AllByRecursion (λ next. nat_eq other next ≡ false) codes → nat_eq code other ≡ false
differs [] code other there each = absurd cc
differs (next ∷ codes) code other there each = by_next (nat_eq code next) refl there (λ is. differs codes code other is each.1) where
  by_next : (b : Bool) → nat_eq code next ≡ b → (b || list_any (nat_eq code) codes) ≡ true → (list_any (nat_eq code) codes ≡ true → nat_eq code other ≡ false) → nat_eq code other ≡ false
  by_next true same is rest = let apart : nat_eq other next ≡ false = each.0 in grind (arith, nat_tests)
  by_next false not_here is rest = rest is

-- the state of a visit isn't among those before it
pub none_before : (visits : List Visit) (place : ℕ) (visit : Visit) → IsDistinct nat_eq (codes_of visits) → slice_get visits place ≡ Some visit
    → list_any (nat_eq (code_of visit.state)) (take place (codes_of visits)) ≡ false
unfolding IsDistinct
none_before visits zero visit apart at = refl
none_before [] (suc place) visit apart at = absurd cc
none_before (first ∷ visits) (suc place) visit apart at =
    let rest = none_before visits place visit apart.1 at in
    let here = differs (codes_of visits) (code_of visit.state) (code_of first.state) (is_visited visits place visit at) apart.0 in
    ap (λ b. b || list_any (nat_eq (code_of visit.state)) (take place (codes_of visits))) here ∙ rest

-- the test by which the visit at a state is sought
abbrev pub is_at : State → Visit → Bool
is_at state visit = nat_eq (code_of visit.state) (code_of state)

-- a visit that is found is at the state
pub visit_found : (visits : List Visit) (state : State) (place : ℕ) → position (is_at state) visits ≡ Some place
    → (visit : Visit) × (slice_get visits place ≡ Some visit) × (visit.state ≡ state)
visit_found visits state place found =
    let nowhere : Visit = record { state = state; count = 0 } in
    let parts = position-Some (is_at state) visits place nowhere found in
    let same : nat_eq (code_of (get_or visits place nowhere).state) (code_of state) ≡ true = parts.1 in
    (get_or visits place nowhere, slice_get-get_or visits place nowhere parts.0, code_one (get_or visits place nowhere).state state (grind (arith, nat_tests)))

none_passed : (visits : List Visit) (state : State) → length visits ≤ position_or_len (is_at state) visits → list_any (nat_eq (code_of state)) (codes_of visits) ≡ false
none_passed [] state past = refl
none_passed (visit ∷ visits) state past = by_first (is_at state visit) refl past (none_passed visits state) where
  by_first : (b : Bool) → is_at state visit ≡ b → suc (length visits) ≤ cond (not b) (1 + position_or_len (is_at state) visits) 0
      → (length visits ≤ position_or_len (is_at state) visits → list_any (nat_eq (code_of state)) (codes_of visits) ≡ false)
      → (nat_eq (code_of state) (code_of visit.state) || list_any (nat_eq (code_of state)) (codes_of visits)) ≡ false
  by_first true is past_ rest = absurd (omega arith)
  by_first false is past_ rest =
      ap (λ b. b || list_any (nat_eq (code_of state)) (codes_of visits)) (nat_eq_equiv.symm (code_of state) (code_of visit.state) ∙ is) ∙ rest (omega arith)

-- where none is found, none is there
pub visit_none : (visits : List Visit) (state : State) → position (is_at state) visits ≡ None → list_any (nat_eq (code_of state)) (codes_of visits) ≡ false
visit_none visits state none = none_passed visits state (by_test (nat_lt place (length visits)) refl none) where
  place : ℕ
  place = position_or_len (is_at state) visits

  by_test : (b : Bool) → nat_lt (position_or_len (is_at state) visits) (length visits) ≡ b → cond b (Some (position_or_len (is_at state) visits)) None ≡ None
      → length visits ≤ position_or_len (is_at state) visits
  by_test true is found = absurd cc
  by_test false is found = grind (arith, nat_tests)
